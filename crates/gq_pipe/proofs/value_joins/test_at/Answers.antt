use Rattle.gq_steps.specs.declared.action.Action.TheVariants as act
use Rattle.gq_steps.proofs.Acting.{acts}
use Rattle.gq_pipe.proofs.Telling.{steps_long}
use Rattle.gq_pipe.proofs.value_joins.test_at.Goals as goal

pub action-requires : goal.action-requires
action-requires c = steps_long c.args.plan_run.now c.args.depth c.len.result c.len.ensures c.if-depth-len.false

pub returns-in-Test : goal.returns-in-Test
returns-in-Test c = acts c.args.plan_run.now c.args.depth c.action.result (act.Test c.in-Test.test) c.action.ensures c.in-Test.is
