use Rattle.std.proofs.Common.{◌≡◌, drop, map}
use Rattle.std.specs.List.{list_all}
use Rattle.gq_plan.specs.Plans.{step_of}
use Rattle.gq_steps.specs.steps.Outcomes.{passes_at}
use Rattle.gq_pipe.specs.steps.Alone.{is_kept}
use Rattle.gq_pipe.proofs.alone.tests_hold.Given as goal

abbrev pub invariant-steps : goal.invariant-steps
invariant-steps l =
    list_all (is_kept (passes_at l.plan_run.graph.now l.plan_run.typed.now l.row)) (map step_of (drop l.step-index l.steps))
    ≡ list_all (is_kept (passes_at l.plan_run.graph.now l.plan_run.typed.now l.row)) (map step_of l.steps)
