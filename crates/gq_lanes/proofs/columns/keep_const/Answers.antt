use Rattle.std.proofs.Common.{ℕ, length, pos, ap, ◌∙◌, arith}
use Rattle.std.specs.Prelude.{◌&&◌, bit_and}
use Rattle.std.proofs.Math.Facts.{to_z-of_z}
use Rattle.gq_bits.specs.Places.{is_marked}
use Rattle.gq_lanes.specs.Tests.{compares, cell}
use Rattle.gq_lanes.proofs.Kept.{kept_more, known_bits, length-part, get_or-part}
use Rattle.gq_lanes.proofs.columns.keep_const.Goals as goal

pub const_mask-mask-requires : goal.const_mask-mask-requires
const_mask-mask-requires c = omega (arith, ap length c.part_of.ensures, length-part c.args.cells.now c.loop-index.index)

pub loop-index-preserved : goal.loop-index-preserved
loop-index-preserved c =
    let n : ℕ = c.loop-index.index in
    let cells = c.args.cells.now in
    let fits = c.ranges.constant in
    let p = λ (k : ℕ). compares c.args.op (cell cells k) c.args.constant in
    let bits = simp to_z-of_z at (rw c.part_of.ensures at c.const_mask-mask.ensures) in
    let kept = simp to_z-of_z at c.loop-index.invariant in
    simp to_z-of_z (kept_more (λ k. is_marked c.args.known.now k && p k) n (length cells) (bit_and c.word.result c.const_mask-mask.result) c.args.marks.now c.loop-index.marks c.keep_word.new.self kept c.requires.within
    (known_bits p n (length cells) c.word.result c.const_mask-mask.result c.args.known.now c.word.ensures.bits
    (λ i h w. bits i (omega (arith, length-part cells n)) ∙ ap (λ x. compares c.args.op x c.args.constant) (get_or-part cells n i (pos 0) h)))
    c.keep_word.ensures.kept)
