use Rattle.gq_steps.specs.Moves.{run_of}
use Rattle.gq_pipe.proofs.Asking.{steps_run}
use Rattle.gq_pipe.proofs.Nothing.{can_list}
use Rattle.gq_pipe.proofs.ahead.listed_at.Goals as goal

pub list-requires : goal.list-requires
list-requires c =
    can_list (run_of c.args.plan_run.now) c.requires.run c.args.depth (steps_run c.args.plan_run.now c.args.depth c.requires.depth) c.args.row.now c.requires.held c.args.follow c.requires.follows
