use Rattle.std.proofs.Common.{◌∙◌, get_or, ap}
use Rattle.std.proofs.lemmas.List.{get_or_default}
use Rattle.gq_plan.specs.declared.halves.Half.TheVariants.{Whole}
use Rattle.gq_plan.specs.declared.halves.StepHalf.{StepHalf}
use Rattle.gq_steps.specs.Moves.{run_steps}
use Rattle.gq_pipe.proofs.InOrder.{steps_more}
use Rattle.gq_pipe.proofs.ordering.steps_in_order.Goals as goal

abbrev none : StepHalf
none = record { step = 0; half = Whole }

pub loop-half-preserved : goal.loop-half-preserved
loop-half-preserved c =
    let halves = c.args.order.now in
    let i = c.loop-half.half-index in
    let low = c.loop-half-test.true in
    ap run_steps c.in_ok-push.ensures.items
    ∙ steps_more c.args.steps.now halves i c.loop-half.ordered.items c.new.result (get_or halves i none) _ low (get_or_default halves i none (get_or halves i none) low)
    (c.requires i none low) c.index-steps-half.is c.new.ensures.runs c.loop-half.invariant
