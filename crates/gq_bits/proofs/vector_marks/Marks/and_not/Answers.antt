use Rattle.std.proofs.Common.{◌*◌, ◌<◌, ◌^◌, ℕ, length, get_or, refl, sym, ap, ◌∙◌, arith, not, eqb, w64}
use Rattle.std.specs.Prelude.{◌&&◌}
use Rattle.std.specs.Int.{bit_at, bit_not}
use Rattle.gq_bits.proofs.Words.{length-bits_of, is_marked-bits_of, changed_more, changed_all, test-bit_and, test-bit_not, word_bit}
use Rattle.gq_bits.proofs.vector_marks.Marks.and_not.Goals as goal

pub loop-index-preserved : goal.loop-index-preserved
loop-index-preserved c =
    let at : ℕ = c.loop-index.index in
    let fits : get_or c.other.inside.words at 0 < 2 ^ 64 = omega (arith, c.type_inv) in
    changed_more _ at _ c.self.inside.words c.loop-index.self-inside.words (omega (arith, c.self.told, c.loop-index-test.true)) c.loop-index.invariant
    (λ i h. test-bit_and (get_or c.loop-index.self-inside.words at 0) (bit_not w64 (get_or c.other.inside.words at 0)) i
    ∙ ap (λ b. eqb (bit_at (get_or c.loop-index.self-inside.words at 0) i) 1 && b) (test-bit_not (get_or c.other.inside.words at 0) i fits h ∙ ap not (sym (word_bit c.other.inside.words at i h))))

pub returns-clause-whole : goal.returns-clause-whole
returns-clause-whole c = omega (arith, length-bits_of (64 * length c.loop-index.self-inside.words) c.loop-index.self-inside.words, c.loop-index.invariant.size, c.self.told)

pub returns-clause-without : goal.returns-clause-without
returns-clause-without c = λ k.
    is_marked-bits_of c.loop-index.self-inside.words k
    ∙ changed_all _ c.loop-index.index c.self.inside.words c.loop-index.self-inside.words (omega (arith, c.loop-index-test.false, c.self.told)) (λ j. refl) c.loop-index.invariant k
    ∙ rw (← c.self.view_is, ← c.other.view_is, is_marked-bits_of c.self.inside.words k, is_marked-bits_of c.other.inside.words k) refl
