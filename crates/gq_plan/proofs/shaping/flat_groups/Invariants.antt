use Rattle.std.proofs.Common.{◌≡◌, ◌++◌, drop, map}
use Rattle.gq_plan.specs.Plans.{steps, step_of}
use Rattle.gq_plan.specs.Shapes.{all_flat, places_of}
use Rattle.gq_plan.proofs.shaping.flat_groups.Given as goal

abbrev pub invariant-loop-step : goal.invariant-loop-step
invariant-loop-step l = record {
  items : l.step-items ≡ l.plan.steps;
  groups : l.groups ++ all_flat l.typed (places_of l.places) (steps (map step_of (drop l.step-index l.step-items)))
      ≡ all_flat l.typed (places_of l.places) (steps (map step_of l.step-items));
}
