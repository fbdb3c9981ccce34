use Rattle.std.proofs.Common.{◌≡◌, ℕ, true, ap}
use Rattle.gq_steps.specs.Actions.{action_of}
use Rattle.gq_steps.specs.Levels.{step_at}
use Rattle.gq_steps.specs.Moves.{run_of}
use Rattle.gq_steps.specs.declared.action.Action.{Action}
use Rattle.gq_steps.specs.declared.action.Action.TheVariants as act
use Rattle.gq_steps.specs.declared.plan_run.PlanRun.{PlanRun}
use Rattle.gq_steps.proofs.Acting.{acts}
use Rattle.gq_pipe.specs.steps.Valued.{is_test}
use Rattle.gq_pipe.proofs.Telling.{steps_long}
use Rattle.gq_pipe.proofs.value_joins.is_test.Goals as goal

pub action-requires : goal.action-requires
action-requires c = steps_long c.args.plan_run.now c.args.depth c.len.result c.len.ensures c.if-depth-len.false

module _ (k : PlanRun) (d : ℕ) (r : Action) (asked : r ≡ action_of (step_at (run_of k) d)) where
  tests : (i : ℕ) → r ≡ act.Test i → is_test (step_at (run_of k) d) ≡ true
  tests i is = ap is_test (acts k d r (act.Test i) asked is)

  differs : (p : ℕ) → r ≡ act.Differ p → is_test (step_at (run_of k) d) ≡ true
  differs p is = ap is_test (acts k d r (act.Differ p) asked is)

  loops_not : (x : ℕ) → r ≡ act.NoLoop x → is_test (step_at (run_of k) d) ≡ true
  loops_not x is = ap is_test (acts k d r (act.NoLoop x) asked is)

pub returns-in-Test : goal.returns-in-Test
returns-in-Test c = λ yes. tests c.args.plan_run.now c.args.depth c.action.result c.action.ensures _ c.in-Test.is

pub returns-in-Differ : goal.returns-in-Differ
returns-in-Differ c = λ yes. differs c.args.plan_run.now c.args.depth c.action.result c.action.ensures _ c.in-Differ.is

pub returns-in-NoLoop : goal.returns-in-NoLoop
returns-in-NoLoop c = λ yes. loops_not c.args.plan_run.now c.args.depth c.action.result c.action.ensures _ c.in-NoLoop.is
