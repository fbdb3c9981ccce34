use Rattle.std.proofs.Common.{List, ℕ, ap, sym, ◌∙◌}
use Rattle.gq_choices.specs.steps.Branching.{unknown}
use Rattle.gq_choices.specs.steps.Narrowing.{has}
use Rattle.gq_choices.specs.steps.Searching.{standing}
use Rattle.gq_choices.proofs.NarrowedByOne.{narrowed_agree, restricted_unknown}
use Rattle.gq_choices.proofs.narrowing.narrow_at.Goals as goal

pub returns-clause-agree : goal.returns-clause-agree
returns-clause-agree c =
    narrowed_agree c.args.catalog.now c.args.at c.args.candidates.now.steps c.set.new.self c.in-Some.step.now c.in_ok-narrowed.narrowed c.pattern.inside.left c.pattern.inside.right
    c.args.candidates.now.tables c.restrict.new.lists c.restrict-2.new.lists (has c.in_ok-left.left) (has c.in_ok-right.right) (sym c.in-Some.ensures.value)
    (c.in_ok-narrowed.ensures ∙ ap (λ (ls : List (List ℕ)). standing c.args.catalog.now ls c.in-Some.step.now) c.as_slice.ensures)
    c.set.ensures c.in_ok-left.ensures c.in_ok-right.ensures c.in_ok-restrict.ensures c.in_ok-restrict-2.ensures

pub returns-clause-unknown : goal.returns-clause-unknown
returns-clause-unknown c =
    ap unknown c.in_ok-restrict-2.ensures ∙ restricted_unknown (has c.in_ok-right.right) c.pattern.inside.right c.restrict.new.lists ∙ ap unknown c.in_ok-restrict.ensures
    ∙ restricted_unknown (has c.in_ok-left.left) c.pattern.inside.left c.args.candidates.now.tables
