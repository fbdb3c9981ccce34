use Rattle.std.proofs.Common.{sym, subst}
use Rattle.std.proofs.lemmas.Bool.{eqb-true}
use Rattle.gq_steps.specs.declared.action.Action.TheVariants as act
use Rattle.gq_steps.proofs.Acting.{acts}
use Rattle.gq_pipe.specs.steps.Told.{BindsNode}
use Rattle.gq_pipe.proofs.Telling.{steps_long}
use Rattle.gq_pipe.proofs.closings.binds.Goals as goal

pub action-requires : goal.action-requires
action-requires c = steps_long c.args.plan_run.now c.args.depth c.len.result c.len.ensures c.if-depth-len.false

pub returns-in-Scan : goal.returns-in-Scan
returns-in-Scan c same = subst (BindsNode c.args.node) (sym (acts c.args.plan_run.now c.args.depth c.action.result (act.Scan c.in-Scan.own) c.action.ensures c.in-Scan.is)) (eqb-true c.in-Scan.own c.args.node same)

pub returns-in-List : goal.returns-in-List
returns-in-List c same = subst (BindsNode c.args.node) (sym (acts c.args.plan_run.now c.args.depth c.action.result (act.List c.in-List.follow) c.action.ensures c.in-List.is)) (eqb-true c.in-List.follow.to c.args.node same)
