use Rattle.std.proofs.Common.{ap, arith, length}
use Rattle.gq_tests.proofs.pipe.hand_out.Goals as goal

pub chunks-smaller : goal.chunks-smaller
chunks-smaller g c = omega (arith, ap length (c.advance.ensures.next_key c.chunks-test.true))
