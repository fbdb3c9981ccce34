use Rattle.std.proofs.Common.{◌≡◌, ℕ, List, Some, true, false, nat_lt, length, ap, ap₂, sym, ◌∙◌}
use Rattle.std.specs.List.{list_all}
use Rattle.gq_base.specs.Catalogs.{Tables}
use Rattle.gq_alternatives.specs.Alternatives.{pattern_alternatives}
use Rattle.gq_alternatives.specs.Searching.{at_most}
use Rattle.gq_choices.specs.steps.Searching.{agreeing}
use Rattle.gq_alternatives.specs.Candidates.{steps_of, tables_of}
use Rattle.gq_choices.proofs.Limits.{at_most_none, at_most_taken}
use Rattle.gq_choices.proofs.Searches.{none_outside, candidates_agree}
use Rattle.gq_choices.proofs.alternatives.choices_of.Goals as goal
use Rattle.gq_scopes.specs.Patterns.{NodePattern, Pattern}

pub returns-then-not-all_within : goal.returns-then-not-all_within
returns-then-not-all_within c =
    let p : Pattern = c.args.pattern.now in
    let out : list_all (λ q. nat_lt q.variable (length p.names)) p.nodes ≡ false =
    sym (ap₂ (λ (ns : List NodePattern) (n : ℕ). list_all (λ q. nat_lt q.variable n) ns) c.nodes.ensures (ap length c.names-count.ensures)) ∙ sym c.all_within.ensures ∙ c.if-not-all_within.true in
    ap Some c.new.ensures ∙ at_most_none c.args.most ∙ ap (at_most c.args.most) (sym (none_outside c.args.catalog.now p out))

pub returns-in-Some : goal.returns-in-Some
returns-in-Some c =
    let p : Pattern = c.args.pattern.now in
    let within : list_all (λ q. nat_lt q.variable (length p.names)) p.nodes ≡ true =
    sym (ap₂ (λ (ns : List NodePattern) (n : ℕ). list_all (λ q. nat_lt q.variable n) ns) c.nodes.ensures (ap length c.names-count.ensures)) ∙ sym c.all_within.ensures ∙ c.if-not-all_within.false in
    let catalog : Tables = c.args.catalog.now in
    let steps : c.in_ok-first.first.steps ≡ steps_of catalog p.rels = c.in_ok-first.ensures.steps ∙ c.in_ok-steps.ensures ∙ ap (steps_of catalog) c.rels.ensures in
    let tables : c.in_ok-first.first.tables ≡ tables_of catalog p.nodes (length p.names) = c.in_ok-first.ensures.tables ∙ c.in_ok-tables.ensures ∙ ap₂ (tables_of catalog) c.nodes-2.ensures (ap length c.names-count.ensures) in
    let all : agreeing catalog c.as_slice-steps.result.now c.as_slice.result.now ≡ pattern_alternatives catalog p =
    ap₂ (agreeing catalog) c.as_slice-steps.ensures c.as_slice.ensures ∙ c.in_ok-candidates.ensures.agree ∙ ap₂ (agreeing catalog) steps tables ∙ sym (candidates_agree catalog p within) in
    c.limited.ensures ∙ ap (at_most c.args.most) (rw c.in-Some.is at c.in_ok-found.ensures)
    ∙ at_most_taken c.args.most (agreeing catalog c.as_slice-steps.result.now c.as_slice.result.now) ∙ ap (at_most c.args.most) all

pub returns : goal.returns
returns c =
    let p : Pattern = c.args.pattern.now in
    let within : list_all (λ q. nat_lt q.variable (length p.names)) p.nodes ≡ true =
    sym (ap₂ (λ (ns : List NodePattern) (n : ℕ). list_all (λ q. nat_lt q.variable n) ns) c.nodes.ensures (ap length c.names-count.ensures)) ∙ sym c.all_within.ensures ∙ c.if-not-all_within.false in
    let catalog : Tables = c.args.catalog.now in
    let steps : c.in_ok-first.first.steps ≡ steps_of catalog p.rels = c.in_ok-first.ensures.steps ∙ c.in_ok-steps.ensures ∙ ap (steps_of catalog) c.rels.ensures in
    let tables : c.in_ok-first.first.tables ≡ tables_of catalog p.nodes (length p.names) = c.in_ok-first.ensures.tables ∙ c.in_ok-tables.ensures ∙ ap₂ (tables_of catalog) c.nodes-2.ensures (ap length c.names-count.ensures) in
    let all : agreeing catalog c.in_ok-candidates.candidates.steps c.in_ok-candidates.candidates.tables ≡ pattern_alternatives catalog p =
    c.in_ok-candidates.ensures.agree ∙ ap₂ (agreeing catalog) steps tables ∙ sym (candidates_agree catalog p within) in
    c.limited-2.ensures ∙ ap (at_most c.args.most) c.in_ok-found-2.ensures
    ∙ at_most_taken c.args.most (agreeing catalog c.in_ok-candidates.candidates.steps c.in_ok-candidates.candidates.tables) ∙ ap (at_most c.args.most) all
