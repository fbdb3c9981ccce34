use Rattle.std.proofs.Common.{◌∙◌, All, ap, sym, subst}
use Rattle.gq_ast.specs.declared.Path.{Path}
use Rattle.std.proofs.Common.{List}
use Rattle.gq_bound.proofs.Patterns.{IsWholeMap, alone_entries_whole}
use Rattle.gq_scopes.specs.Patterns.{Pattern, pattern_of, with_paths}
use Rattle.gq_binder.proofs.optionals.push_alone.Goals as goal

pub returns-clause-whole : goal.returns-clause-whole
unfolding pattern_of
returns-clause-whole c =
    subst (λ (p : Pattern). All (IsWholeMap c.args.text.now) p.entries)
    (sym (c.in_ok-push_paths.ensures ∙ ap (λ (ps : List Path). with_paths 0 ps c.args.own.now) c.as_slice.ensures ∙ ap (with_paths 0 c.args.clause.now.paths) c.requires.fresh))
    (alone_entries_whole c.args.text.now c.args.clause.now c.requires.whole)
