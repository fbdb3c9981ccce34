use Rattle.std.proofs.Common.{◌≡◌, ◌∙◌, ◌++◌, All, List, map, length, ap, sym, subst}
use Rattle.gq_ast.specs.declared.Clause.{Clause}
use Rattle.gq_bound.proofs.PartLemmas.{parts_made}
use Rattle.gq_bound.proofs.Patterns.{IsWholeMap, entries_whole}
use Rattle.gq_bound.specs.Columns.{conditions_from}
use Rattle.gq_bound.specs.declared.parts.QueryParts.{QueryParts}
use Rattle.gq_bound.specs.steps.Names.{with_clauses_names}
use Rattle.gq_bound.specs.steps.Parts.{clauses_parts, known_conjuncts, known_seen}
use Rattle.gq_scopes.specs.Patterns.{MapEntry, Pattern, pattern_of, with_clauses}
use Rattle.gq_binder.proofs.parts.read_query.Goals as goal

pub read_lists-requires-clause-entries : goal.read_lists-requires-clause-entries
unfolding pattern_of
read_lists-requires-clause-entries c =
    subst (λ (es : List MapEntry). All (IsWholeMap c.args.text.now) es) (sym (ap (λ (p : Pattern). p.entries) (c.in_ok-read_clauses.ensures.pattern
    ∙ ap (λ (cs : List Clause). with_clauses 0 cs c.args.parts.now.matched) c.as_slice-clauses.ensures
    ∙ ap (λ (p : QueryParts). with_clauses 0 c.args.query.now.clauses p.matched) c.requires.fresh)))
    (entries_whole c.args.text.now c.args.query.now c.requires.whole)

pub returns : goal.returns
unfolding pattern_of
returns c =
    let text = c.args.text.now in
    let q = c.args.query.now in
    let n = c.args.parts.now in
    let k = c.in_ok-read_clauses.ensures in
    let w = c.in_ok-read_behind.ensures in
    let l = c.in_ok-read_lists.ensures in
    parts_made q text c.read_clauses.new.pattern c.read_behind.new.pattern
    (k.pattern ∙ ap (λ (cs : List Clause). with_clauses 0 cs n.matched) c.as_slice-clauses.ensures ∙ ap (λ (p : QueryParts). with_clauses 0 q.clauses p.matched) c.requires.fresh)
    w.pattern
    c.read_clauses.new.names c.read_behind.new.names c.read_lists.new.names c.read_lists.new.columns c.read_clauses.new.conjuncts c.read_lists.new.tests
    c.read_clauses.new.exists c.read_behind.new.exists c.read_lists.new.exists c.read_behind.new.all
    (k.names ∙ ap (λ (cs : List Clause). with_clauses_names 0 cs n.matched n.names) c.as_slice-clauses.ensures
    ∙ ap (λ (p : QueryParts). with_clauses_names 0 q.clauses p.matched p.names) c.requires.fresh)
    (k.conjuncts ∙ ap (λ (cs : List Clause). n.conjuncts ++ known_conjuncts text (conditions_from 0 n.matched cs)) c.as_slice-clauses.ensures
    ∙ ap (λ (p : QueryParts). p.conjuncts ++ known_conjuncts text (conditions_from 0 p.matched q.clauses)) c.requires.fresh)
    (k.exists ∙ ap (λ (cs : List Clause). n.exists ++ known_seen text (conditions_from 0 n.matched cs)) c.as_slice-clauses.ensures
    ∙ ap (λ (p : QueryParts). p.exists ++ known_seen text (conditions_from 0 p.matched q.clauses)) c.requires.fresh)
    w.names w.exists
    (w.clauses ∙ ap (λ (p : QueryParts). p.optionals ++ clauses_parts text (length q.clauses) (pattern_of q.clauses) q.optionals) c.requires.fresh)
    l.columns l.tests l.names l.exists
