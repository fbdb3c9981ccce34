use Rattle.std.proofs.Common.{◌*◌, length, sym, ap, arith}
use Rattle.std.proofs.lemmas.Nat.Bits.{shr_and_one}
use Rattle.gq_bits.proofs.Words.{is_marked-bits_of, length-bits_of}
use Rattle.gq_bits.proofs.vector_marks.Marks.get.Goals as goal

pub returns-clause-whole : goal.returns-clause-whole
returns-clause-whole c = omega (arith, ap length c.self.view_is, length-bits_of (64 * length c.self.inside.words) c.self.inside.words, c.self.told)

pub returns-clause-value : goal.returns-clause-value
returns-clause-value c = rw (← c.self.view_is, shr_and_one) (sym (is_marked-bits_of c.self.inside.words c.args.place))
