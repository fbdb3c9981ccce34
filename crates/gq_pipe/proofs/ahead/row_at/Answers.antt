use Rattle.std.proofs.Common.{inl, refl}
use Rattle.gq_steps.specs.declared.action.Action.TheVariants as act
use Rattle.gq_steps.proofs.Acting.{acts}
use Rattle.gq_pipe.proofs.ahead.row_at.Goals as goal

pub returns-in-Scan : goal.returns-in-Scan
returns-in-Scan c = inl ((c.in-Scan._node, acts c.args.plan_run.now c.args.group.first c.args.group.action (act.Scan c.in-Scan._node) c.requires.action c.in-Scan.is), refl)

pub listed_at-requires-clause-follows : goal.listed_at-requires-clause-follows
listed_at-requires-clause-follows c = acts c.args.plan_run.now c.args.group.first c.args.group.action (act.List c.in-List.follow) c.requires.action c.in-List.is
