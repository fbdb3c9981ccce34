use Rattle.std.proofs.Common.{◌≡◌, ◌≤◌, ◌+◌, min, drop, map}
use Rattle.gq_plan.specs.Covers.{placed}
use Rattle.gq_plan.specs.Plans.{steps, step_of}
use Rattle.gq_plan.specs.steps.Times.{times}
use Rattle.gq_plan.proofs.covering.+times.Given as goal

abbrev pub invariant-times-loop-step : goal.invariant-times-loop-step
invariant-times-loop-step l = record {
  items : l.step-items ≡ l.plan.steps;
  few : l.count ≤ 2;
  rest : min 2 (l.count + times l.demand (placed (steps (map step_of (drop l.step-index l.step-items))))) ≡ min 2 (times l.demand (placed (steps (map step_of l.step-items))));
}
