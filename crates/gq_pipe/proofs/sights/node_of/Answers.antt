use Rattle.std.proofs.Common.{refl, sym, subst}
use Rattle.gq_steps.specs.declared.action.Action.TheVariants as act
use Rattle.gq_steps.proofs.Acting.{acts}
use Rattle.gq_pipe.specs.steps.Told.{BindsNode}
use Rattle.gq_pipe.proofs.sights.node_of.Goals as goal

pub returns-in-Scan : goal.returns-in-Scan
returns-in-Scan c = subst (BindsNode c.in-Scan.node) (sym (acts c.args.plan_run.now c.args.depth c.action.result (act.Scan c.in-Scan.node) c.action.ensures c.in-Scan.is)) refl

pub returns-in-List : goal.returns-in-List
returns-in-List c = subst (BindsNode c.in-List.follow.to) (sym (acts c.args.plan_run.now c.args.depth c.action.result (act.List c.in-List.follow) c.action.ensures c.in-List.is)) refl
