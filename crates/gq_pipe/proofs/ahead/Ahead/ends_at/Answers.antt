use Rattle.gq_steps.specs.Moves.{run_of}
use Rattle.gq_steps.specs.declared.action.Action.TheVariants as act
use Rattle.gq_steps.proofs.Acting.{acts}
use Rattle.gq_pipe.proofs.Asking.{steps_run}
use Rattle.gq_pipe.proofs.Nothing.{can_list}
use Rattle.gq_pipe.proofs.ahead.Ahead.ends_at.Goals as goal

pub ends_at-requires : goal.ends_at-requires
ends_at-requires c =
    can_list (run_of c.args.plan_run.now) c.requires.run c.args.group.first (steps_run c.args.plan_run.now c.args.group.first c.requires.step) c.args.row.now c.requires.held c.in-List.follow
    (acts c.args.plan_run.now c.args.group.first c.args.group.action (act.List c.in-List.follow) c.requires.action c.in-List.is)
