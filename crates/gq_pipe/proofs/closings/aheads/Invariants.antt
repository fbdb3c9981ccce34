use Rattle.gq_steps.specs.Moves.{run_of}
use Rattle.gq_pipe.specs.steps.Ahead.{AreAhead}
use Rattle.gq_pipe.proofs.closings.aheads.Given as goal

abbrev pub invariant-loop-behind : goal.invariant-loop-behind
invariant-loop-behind l = AreAhead (run_of l.plan_run) l.groups l.aheads.items
