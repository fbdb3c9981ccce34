use Rattle.std.proofs.Common.{◌*◌, ◌+◌, length, sym, ap, ◌∙◌, arith}
use Rattle.gq_bits.proofs.Words.{is_marked-bits_of, length-bits_of, word_bit}
use Rattle.gq_bits.proofs.vector_marks.Marks.word.Goals as goal

pub returns-clause-whole : goal.returns-clause-whole
returns-clause-whole c = omega (arith, ap length c.self.view_is, length-bits_of (64 * length c.self.inside.words) c.self.inside.words, c.self.told)

pub returns-clause-bits : goal.returns-clause-bits
returns-clause-bits c = λ i h. rw (← c.self.view_is) (sym (is_marked-bits_of c.self.inside.words (64 * c.args.index + i) ∙ word_bit c.self.inside.words c.args.index i h))
