use Rattle.std.proofs.Common.{◌≡◌, drop, map}
use Rattle.gq_plan.specs.Covers.{fits, after}
use Rattle.gq_plan.specs.Known.{known_of}
use Rattle.gq_plan.specs.Plans.{steps, step_of}
use Rattle.gq_plan.proofs.fitting.+takes_plan.Given as goal

abbrev pub invariant-takes_plan-loop-step : goal.invariant-takes_plan-loop-step
invariant-takes_plan-loop-step l = record {
  items : l.step-items ≡ l.plan.steps;
  fits : fits l.catalog l.typed (steps (map step_of (drop l.step-index l.step-items))) (known_of l.known)
      ≡ fits l.catalog l.typed (steps (map step_of l.step-items)) (known_of l.fn.known);
  after : after (steps (map step_of (drop l.step-index l.step-items))) (known_of l.known) ≡ after (steps (map step_of l.step-items)) (known_of l.fn.known);
}
