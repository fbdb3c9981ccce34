use Rattle.std.proofs.Common.{◌∙◌, ap, [], ◌∷◌, ◌++◌, append_assoc}
use Rattle.gq_plan.specs.declared.halves.Half.TheVariants.{First, Second}
use Rattle.gq_plan.specs.declared.halves.StepHalf.{StepHalf}
use Rattle.gq_plan.proofs.halves.push_halves.Goals as goal

pub returns : goal.returns
returns c =
    let first : StepHalf = record { step = c.args.number; half = First } in
    let second : StepHalf = record { step = c.args.number; half = Second } in
    c.in_ok-push-2.ensures.pushed ∙ ap (λ qs. qs ++ second ∷ []) c.in_ok-push.ensures.pushed ∙ append_assoc c.args.all.now (first ∷ []) (second ∷ [])
