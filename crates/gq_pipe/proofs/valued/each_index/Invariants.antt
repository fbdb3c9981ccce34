use Rattle.std.proofs.Common.{◌≡◌, length}
use Rattle.gq_steps.specs.Moves.{run_of}
use Rattle.gq_pipe.specs.steps.Valued.{AreIndexed}
use Rattle.gq_pipe.proofs.valued.each_index.Given as goal

abbrev pub invariant-loop-group : goal.invariant-loop-group
invariant-loop-group l = record {
  indexed : AreIndexed (run_of l.plan_run) l.groups l.indexes.items;
  many : length l.indexes.items ≡ l.group-index;
}
