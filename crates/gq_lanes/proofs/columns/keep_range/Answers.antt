use Rattle.std.proofs.Common.{ℕ, ◌*◌, take, drop, length, pos, ap, ◌∙◌, arith}
use Rattle.std.specs.Prelude.{◌==◌, ◌&&◌, bit_and, int_le}
use Rattle.std.specs.Int.{bit_at}
use Rattle.std.proofs.Math.Facts.{to_z-of_z}
use Rattle.gq_bits.specs.Places.{is_marked}
use Rattle.gq_bits.proofs.Words.{test-bit_and}
use Rattle.gq_lanes.specs.Tests.{is_between, cell}
use Rattle.gq_lanes.proofs.Kept.{kept_more, known_bits, length-part, get_or-part}
use Rattle.gq_lanes.proofs.columns.keep_range.Goals as goal

pub const_mask-from_low-requires : goal.const_mask-from_low-requires
const_mask-from_low-requires c = omega (arith, ap length c.part_of-part.ensures, length-part c.args.cells.now c.loop-index.index)

pub const_mask-below_high-requires : goal.const_mask-below_high-requires
const_mask-below_high-requires c = omega (arith, ap length c.part_of-part.ensures, length-part c.args.cells.now c.loop-index.index)

pub loop-index-preserved : goal.loop-index-preserved
loop-index-preserved c =
    let n : ℕ = c.loop-index.index in
    let cells = c.args.cells.now in
    let low_fits = c.ranges.low in
    let high_fits = c.ranges.high in
    let p = λ (k : ℕ). is_between c.args.low c.args.high (cell cells k) in
    let from_low = simp to_z-of_z at (rw c.part_of-part.ensures at c.const_mask-from_low.ensures) in
    let below_high = simp to_z-of_z at (rw c.part_of-part.ensures at c.const_mask-below_high.ensures) in
    let mask : ℕ = bit_and c.const_mask-from_low.result c.const_mask-below_high.result in
    let kept = simp to_z-of_z at c.loop-index.invariant in
    simp to_z-of_z (kept_more (λ k. is_marked c.args.known.now k && p k) n (length cells) (bit_and c.word.result mask) c.args.marks.now c.loop-index.marks c.keep_word.new.self kept c.requires.within
    (known_bits p n (length cells) c.word.result mask c.args.known.now c.word.ensures.bits
    (λ i h w. test-bit_and c.const_mask-from_low.result c.const_mask-below_high.result i
    ∙ ap (λ b. b && (bit_at c.const_mask-below_high.result i == 1)) (from_low i (omega (arith, length-part cells n)))
    ∙ ap (λ b. int_le c.args.low (cell (take 64 (drop (64 * n) cells)) i) && b) (below_high i (omega (arith, length-part cells n)))
    ∙ ap (is_between c.args.low c.args.high) (get_or-part cells n i (pos 0) h)))
    c.keep_word.ensures.kept)
