use Rattle.std.proofs.Common.{◌≡◌, ◌≤◌, drop, map}
use Rattle.gq_plan.specs.Plans.{steps, step_of}
use Rattle.gq_plan.specs.Shapes.{nowhere, places_of, places_after}
use Rattle.gq_plan.proofs.places.place_variables.Given as goal

abbrev pub invariant-loop-step : goal.invariant-loop-step
invariant-loop-step l = record {
  items : l.step-items ≡ l.plan.steps;
  few : l.places.count ≤ l.step-index;
  placed : places_after (steps (map step_of (drop l.step-index l.step-items))) (places_of l.places) ≡ places_after (steps (map step_of l.step-items)) nowhere;
}
