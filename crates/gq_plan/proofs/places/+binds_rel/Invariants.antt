use Rattle.std.proofs.Common.{◌≡◌, drop, map}
use Rattle.gq_plan.specs.Plans.{steps, step_of}
use Rattle.gq_plan.specs.steps.Places.{binds_rel}
use Rattle.gq_plan.proofs.places.+binds_rel.Given as goal

abbrev pub invariant-binds_rel-loop-step : goal.invariant-binds_rel-loop-step
invariant-binds_rel-loop-step l = record {
  items : l.step-items ≡ l.plan.steps;
  rest : binds_rel l.rel (steps (map step_of (drop l.step-index l.step-items))) ≡ binds_rel l.rel (steps (map step_of l.step-items));
}
