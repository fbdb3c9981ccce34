use Rattle.std.proofs.Common.{◌≡◌, List, [], ◌∷◌, ◌++◌, slice_set, ap, ap₂, ◌∙◌}
use Rattle.gq_alternatives.specs.Alternatives.{Reading}
use Rattle.gq_alternatives.specs.Candidates.{Step}
use Rattle.gq_choices.proofs.Branches.{past_decides, set_decides}
use Rattle.gq_choices.proofs.branching.decided_steps.Goals as goal
use Rattle.gq_scopes.specs.Patterns.{RelPattern}

pub returns-in_default : goal.returns-in_default
returns-in_default c = c.in_ok-copies.ensures ∙ past_decides c.args.at c.args.reading c.args.steps.now c.in_default.ensures.lookup.3

pub returns : goal.returns
returns c =
    let one : c.push.new.self ≡ c.args.reading ∷ [] = c.in_ok-push.ensures.pushed ∙ ap (λ rs. rs ++ c.args.reading ∷ []) c.new-readings.ensures in
    let step : RelPattern → List Reading → Step = λ p rs. record { pattern = p; readings = rs } in
    c.set.ensures
    ∙ ap₂ (λ (ss : List Step) (z : Step). slice_set ss c.args.at z) c.in_ok-copies.ensures (ap₂ step (ap (λ (z : Step). z.pattern) c.step.view_is) one)
    ∙ set_decides c.args.at c.args.reading c.args.steps.now c.in-Some.step.now c.in-Some.ensures.lookup.3.0 c.in-Some.ensures.lookup.1
