-- What a pipeline runs of a plan.
use Rattle.std.specs.Prelude.{◌≡◌, ◌<◌, Bool, true, Option, None, List, All, map, length, slice_index_or}
use Rattle.gq_arrange.specs.Law.{IsArranged, led_order}
use Rattle.gq_base.specs.Valid.{is_valid}
use Rattle.gq_filter.specs.RowTests.{conditions_of}
use Rattle.gq_join.specs.Kept.{Held}
use Rattle.gq_plan.specs.Arranged.{at_numbers, flags_of}
use Rattle.gq_plan.specs.Columns.{steps_of}
use Rattle.gq_plan.specs.Covers.{Fits}
use Rattle.gq_plan.specs.Halves.{half_in, numbered_halves}
use Rattle.gq_plan.specs.Plans.{plan_of, step_of}
use Rattle.gq_plan.specs.Shapes.{places}
use Rattle.gq_plan.specs.Soundness.{IsSound}
use Rattle.gq_plan.specs.declared.halves.StepHalf.{StepHalf}
use Rattle.gq_plan.specs.declared.plan.Plan.{Plan}
use Rattle.gq_steps.specs.Built.{AreBuilds}
use Rattle.gq_steps.specs.Moves.{builds_in, run_steps}
use Rattle.gq_steps.specs.declared.plan_run.PlanRun.{PlanRun}

-- what runs are the steps of a plan and their builds, in the order of its groups
pub record IsStarted (k : PlanRun) (p : Plan) (os : List (Option Held)) (order : List StepHalf) (flat : List Bool) : Type 0 where
  pub valid : is_valid k.graph.now ≡ true
  pub sound : IsSound k.graph.now.catalog k.typed.now
  pub fits : Fits k.graph.now.catalog k.typed.now (plan_of p)
  pub builds : AreBuilds k.graph.now k.typed.now (plan_of p) os
  pub plan : k.plan.now ≡ p.steps
  pub order_is : order ≡ at_numbers (numbered_halves 0 (steps_of (plan_of p))) (led_order k.typed.now (plan_of p))
  pub flat_is : flat ≡ flags_of k.typed.now (plan_of p)
  pub within : All (λ (q : StepHalf). q.step < length p.steps) order
  pub arranged : 0 < (places (plan_of p)).count → IsArranged k.graph.now.catalog k.typed.now (plan_of p) (led_order k.typed.now (plan_of p)) flat
  pub steps_are : run_steps k.steps.items ≡ map (half_in (map step_of p.steps)) order
  pub builds_are : builds_in k ≡ map (λ (q : StepHalf). slice_index_or os q.step None) order
  pub tests_are : k.tests.items ≡ conditions_of k.graph.now k.typed.now
