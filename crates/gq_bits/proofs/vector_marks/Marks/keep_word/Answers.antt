use Rattle.std.proofs.Common.{◌*◌, length, get_or, set, refl, ◌∙◌, arith}
use Rattle.std.specs.Prelude.{bit_and}
use Rattle.std.proofs.lemmas.List.{length-set}
use Rattle.gq_bits.proofs.Words.{is_marked-bits_of, length-bits_of, bit_of-keep}
use Rattle.gq_bits.proofs.vector_marks.Marks.keep_word.Goals as goal

pub returns-clause-whole : goal.returns-clause-whole
returns-clause-whole c =
    let words = set c.self.inside.words c.args.index (bit_and (get_or c.self.inside.words c.args.index 0) c.args.mask) in
    omega (arith, length-bits_of (64 * length words) words, length-set c.self.inside.words c.args.index (bit_and (get_or c.self.inside.words c.args.index 0) c.args.mask), c.self.told)

pub returns-clause-kept : goal.returns-clause-kept
returns-clause-kept c = λ k.
    is_marked-bits_of (set c.self.inside.words c.args.index (bit_and (get_or c.self.inside.words c.args.index 0) c.args.mask)) k
    ∙ bit_of-keep c.self.inside.words c.args.index c.args.mask k (omega (arith, c.self.told))
    ∙ rw (← c.self.view_is, is_marked-bits_of c.self.inside.words k) refl
