use Rattle.std.proofs.Common.{◌*◌, arith, ap, sym, ◌∙◌, get_or, length, refl, below_more, ◌<◌, ◌^◌}
use Rattle.std.specs.Prelude.{count_ones}
use Rattle.std.specs.List.{sum_by, range_with_len}
use Rattle.std.proofs.lemmas.List.{take_all}
use Rattle.std.proofs.lemmas.List.Sums.{sum_by_more}
use Rattle.gq_bits.specs.steps.Bits.{bit_of}
use Rattle.gq_bits.proofs.Counts.{count_by-map, count_words, ones_at_most}
use Rattle.gq_bits.proofs.vector_marks.Marks.count.Goals as goal

pub loop-index-preserved : goal.loop-index-preserved
loop-index-preserved c =
    let word_fits : get_or c.self.inside.words c.loop-index.index 0 < 2 ^ 64 = omega (arith, c.type_inv) in
    record {
      sum_is = omega (arith, c.loop-index.invariant.sum_is, sum_by_more count_ones c.self.inside.words c.loop-index.index 0 (omega (arith, c.loop-index-test.true, c.self.told)));
      few = omega (arith, ones_at_most (get_or c.self.inside.words c.loop-index.index 0) 64 word_fits, c.loop-index.invariant.few);
      fit = below_more (λ i. get_or c.self.inside.words i 0 < 2 ^ 64) _ c.loop-index.invariant.fit word_fits;
    }

pub returns : goal.returns
returns c =
    let words = c.self.inside.words in
    c.loop-index.invariant.sum_is ∙ ap (sum_by count_ones) (take_all c.loop-index.index words (omega (arith, c.loop-index-test.false, c.self.told))
    ∙ sym (take_all (length words) words (omega arith)))
    ∙ sym (count_words words (length words) (omega arith) (λ i h. c.loop-index.invariant.fit i (omega (arith, c.loop-index-test.false, c.self.told))))
    ∙ sym (count_by-map (bit_of words) (range_with_len 0 (64 * length words)))
    ∙ rw c.self.view_is refl
