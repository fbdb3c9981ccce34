use Rattle.gq_steps.specs.declared.action.Action.TheVariants as act
use Rattle.gq_steps.proofs.Acting.{acts}
use Rattle.gq_pipe.proofs.Telling.{steps_long}
use Rattle.gq_pipe.proofs.closings.closes.Goals as goal

pub action-requires : goal.action-requires
action-requires c = steps_long c.args.plan_run.now c.args.depth c.len.result c.len.ensures c.if-depth-len.false

pub returns-in-Close : goal.returns-in-Close
returns-in-Close c = acts c.args.plan_run.now c.args.depth c.action.result (act.Close c.in-Close.follow) c.action.ensures c.in-Close.is
