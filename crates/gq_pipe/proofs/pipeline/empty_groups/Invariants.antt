use Rattle.std.proofs.Common.{◌≡◌, length}
use Rattle.gq_pipe.proofs.pipeline.empty_groups.Given as goal

abbrev pub invariant-loop : goal.invariant-loop
invariant-loop l = length l.groups.items ≡ l.counter
