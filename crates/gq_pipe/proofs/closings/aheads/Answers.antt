use Rattle.std.proofs.Common.{◌-◌, Option, length, subst}
use Rattle.std.specs.Prelude.{IfSome}
use Rattle.gq_steps.specs.Moves.{run_of}
use Rattle.gq_pipe.specs.declared.ahead.Ahead.{Ahead}
use Rattle.gq_pipe.specs.steps.Ahead.{IsAhead}
use Rattle.gq_pipe.proofs.Telling.{ahead_put, untold_ahead}
use Rattle.gq_pipe.proofs.closings.aheads.Goals as goal

pub loop-behind-init : goal.loop-behind-init
loop-behind-init c = untold_ahead (run_of c.args.plan_run.now) c.args.groups.now c.untold-aheads.result.items c.untold-aheads.ensures

pub loop-behind-preserved : goal.loop-behind-preserved
loop-behind-preserved c =
    ahead_put (run_of c.args.plan_run.now) c.args.groups.now c.loop-behind.aheads.items c.put_ahead.new.aheads.items (length c.args.groups.now - 1 - c.loop-behind.behind) c.ahead_of-ahead.result c.loop-behind.invariant c.put_ahead.ensures
    (λ t is. subst (λ (o : Option Ahead). IfSome o (IsAhead (run_of c.args.plan_run.now) c.args.groups.now (length c.args.groups.now - 1 - c.loop-behind.behind))) is c.ahead_of-ahead.ensures)
