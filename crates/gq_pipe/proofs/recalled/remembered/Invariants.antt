use Rattle.std.proofs.Common.{◌≡◌, length}
use Rattle.gq_steps.specs.Moves.{run_of}
use Rattle.gq_pipe.specs.steps.Recalled.{AreRemembered}
use Rattle.gq_pipe.proofs.recalled.remembered.Given as goal

abbrev pub invariant-loop-depth : goal.invariant-loop-depth
invariant-loop-depth l = record {
  remembered : AreRemembered (run_of l.plan_run) l.groups l.all.items;
  many : length l.all.items ≡ l.depth;
}
