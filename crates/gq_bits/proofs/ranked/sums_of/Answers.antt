use Rattle.std.proofs.Common.{◌+◌, ◌*◌, ◌<◌, ◌^◌, get_or, ap, ◌∙◌, arith, count_by}
use Rattle.gq_bits.specs.steps.Bits.{bits_of}
use Rattle.gq_bits.proofs.Counts.{ones_at_most}
use Rattle.gq_base.proofs.ListFacts.{follows_push}
use Rattle.gq_bits.proofs.Ranks.{ones_more, ones_le}
use Rattle.gq_bits.proofs.ranked.sums_of.Goals as goal

pub overflow_cast-before : goal.overflow_cast-before
overflow_cast-before c = omega (arith, c.loop-word.invariant.before_is, ones_le c.args.words.now (64 * c.loop-word.word-index), c.requires, c.loop-word-test.true)

pub overflow_add-before : goal.overflow_add-before
overflow_add-before c =
    omega (
      arith,
      c.loop-word.invariant.before_is,
      ones_le c.args.words.now (64 * c.loop-word.word-index),
      c.requires,
      c.loop-word-test.true,
      c.from-before.ensures,
      ones_at_most (get_or c.args.words.now c.loop-word.word-index 0) 64 (omega (arith, c.type_inv.words c.loop-word.word-index)),
    )

pub loop-word-preserved : goal.loop-word-preserved
loop-word-preserved c =
    let fit : get_or c.args.words.now c.loop-word.word-index 0 < 2 ^ 64 = omega (arith, c.type_inv.words c.loop-word.word-index) in
    record {
      size = c.in_ok-push.ensures.len ∙ ap (λ n. n + 1) c.loop-word.invariant.size;
      before_is = omega (arith, c.loop-word.invariant.before_is, ones_more c.args.words.now c.loop-word.word-index fit, c.from-before.ensures);
      ones = rw c.in_ok-push.ensures.items (follows_push (λ k. count_by (λ on. on) (bits_of (64 * k) c.args.words.now)) c.loop-word.sums.items c.loop-word.before c.loop-word.word-index
          (omega (arith, c.loop-word.invariant.size, c.loop-word.sums.ok.0)) c.loop-word.invariant.ones c.loop-word.invariant.before_is);
    }
