use Rattle.std.proofs.Common.{◌∙◌, sym, ap}
use Rattle.gq_steps.specs.Levels.{step_at}
use Rattle.gq_steps.specs.Moves.{run_of}
use Rattle.gq_steps.specs.declared.action.Action.TheVariants as act
use Rattle.gq_steps.specs.Tests.{loop_of}
use Rattle.gq_steps.proofs.Acting.{acts}
use Rattle.gq_sift.proofs.Judged.{no_loop}
use Rattle.gq_sift.proofs.looping.loop_at.Goals as goal

pub returns-in-NoLoop : goal.returns-in-NoLoop
returns-in-NoLoop c = sym (ap loop_of (acts c.args.plan_run.now c.args.depth c.action.result (act.NoLoop c.in-NoLoop.rel) c.action.ensures c.in-NoLoop.is))

pub returns-in_default : goal.returns-in_default
returns-in_default c = sym (no_loop (step_at (run_of c.args.plan_run.now) c.args.depth) (λ i is. c.in_default.not-NoLoop i (c.action.ensures ∙ is)))
