use Rattle.std.proofs.Common.{◌≡◌, length}
use Rattle.gq_hops.proofs.used.clear.Given as goal

abbrev pub invariant-loop-place : goal.invariant-loop-place
invariant-loop-place l = length l.marks ≡ length l.fn.marks
