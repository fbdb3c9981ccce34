use Rattle.std.proofs.Common.{◌≡◌, map, take}
use Rattle.gq_plan.specs.Halves.{half_in}
use Rattle.gq_plan.specs.Plans.{step_of}
use Rattle.gq_steps.specs.Moves.{run_steps}
use Rattle.gq_pipe.proofs.ordering.steps_in_order.Given as goal

abbrev pub invariant-loop-half : goal.invariant-loop-half
invariant-loop-half l = run_steps l.ordered.items ≡ map (half_in (map step_of l.steps)) (take l.half-index l.order)
