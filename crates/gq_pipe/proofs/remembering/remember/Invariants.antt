use Rattle.std.proofs.Common.{◌≡◌}
use Rattle.gq_pipe.proofs.remembering.remember.Given as goal

abbrev pub invariant-loop-part : goal.invariant-loop-part
invariant-loop-part l = l.tests.items ≡ l.fn.tests.items
