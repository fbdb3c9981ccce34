use Rattle.std.proofs.Common.{◌≡◌, ◌++◌, drop, length, map}
use Rattle.gq_plan.specs.Plans.{steps, step_of}
use Rattle.gq_plan.specs.Shapes.{shape_from}
use Rattle.gq_plan.specs.Soundness.{has_number}
use Rattle.gq_plan.proofs.shaping.shape.Given as goal

abbrev pub invariant-loop-step : goal.invariant-loop-step
invariant-loop-step l = record {
  items : l.step-items ≡ l.plan.steps;
  shapes : l.shapes ++ shape_from (has_number l.flat) (length l.shapes) (steps (map step_of (drop l.step-index l.step-items)))
      ≡ shape_from (has_number l.flat) 0 (steps (map step_of l.step-items));
}
