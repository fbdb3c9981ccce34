use Rattle.std.proofs.Common.{◌≡◌, ◌++◌}
use Rattle.gq_optional.proofs.gathering.append.Given as goal

abbrev pub invariant-loop-one : goal.invariant-loop-one
invariant-loop-one l = l.spent ≡ l.initial.spent ++ l.yielded
