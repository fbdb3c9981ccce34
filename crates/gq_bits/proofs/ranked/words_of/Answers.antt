use Rattle.std.proofs.Common.{◌/◌, ◌<◌, arith}
use Rattle.std.proofs.lemmas.List.{get_or_read_under}
use Rattle.gq_bits.proofs.Ranks.{packed_more}
use Rattle.gq_bits.proofs.ranked.words_of.Goals as goal

pub loop-place-preserved : goal.loop-place-preserved
loop-place-preserved c =
    let words = c.loop-place.words in
    let near : c.loop-place.place / 64 < words.len = omega (arith, c.loop-place.invariant.size, c.loop-place-test.true) in
    let had = get_or_read_under words.items (c.loop-place.place / 64) words.len c.index_mut.result.now 0 c.index_mut.ensures.value near words.ok.0 in
    record {
      size = c.loop-place.invariant.size;
      filled = rw (had, c.from.ensures) (packed_more words.items c.args.bits.now c.loop-place.place c.loop-place-test.true (omega (arith, near, words.ok.0)) c.loop-place.invariant.filled);
    }
