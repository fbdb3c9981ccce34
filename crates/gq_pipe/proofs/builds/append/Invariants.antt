use Rattle.std.proofs.Common.{◌≡◌, ◌++◌}
use Rattle.gq_pipe.proofs.builds.append.Given as goal

abbrev pub invariant-loop-one : goal.invariant-loop-one
invariant-loop-one l = l.spent.items ≡ l.initial.spent.items ++ l.yielded
