use Rattle.std.proofs.Common.{arith, ap, length}
use Rattle.gq_bits.proofs.Words.{length-bits_of}
use Rattle.gq_bits.proofs.ranked.BitList.len.Goals as goal

pub returns : goal.returns
returns c = omega (arith, ap length c.self.view_is, length-bits_of c.self.inside.len c.self.inside.words.items)
