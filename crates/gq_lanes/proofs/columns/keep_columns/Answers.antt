use Rattle.std.proofs.Common.{ℕ, ◌+◌, ◌*◌, take, drop, length, pos, ap, ◌∙◌, arith}
use Rattle.std.specs.Prelude.{◌&&◌, bit_and}
use Rattle.gq_bits.specs.Places.{is_marked}
use Rattle.gq_lanes.specs.Tests.{compares, cell}
use Rattle.gq_lanes.proofs.Kept.{kept_more, known_bits, length-part, get_or-part}
use Rattle.gq_lanes.proofs.columns.keep_columns.Goals as goal

pub columns_mask-mask-requires-clause-one_length : goal.columns_mask-mask-requires-clause-one_length
columns_mask-mask-requires-clause-one_length c =
    omega (arith, ap length c.part_of-left_part.ensures, length-part c.args.left.now c.loop-index.index, ap length c.part_of-right_part.ensures, length-part c.args.right.now c.loop-index.index, c.requires.one_length)

pub columns_mask-mask-requires-clause-few : goal.columns_mask-mask-requires-clause-few
columns_mask-mask-requires-clause-few c = omega (arith, ap length c.part_of-left_part.ensures, length-part c.args.left.now c.loop-index.index)

pub loop-index-preserved : goal.loop-index-preserved
loop-index-preserved c =
    let n : ℕ = c.loop-index.index in
    let left = c.args.left.now in
    let right = c.args.right.now in
    let p = λ (k : ℕ). compares c.args.op (cell left k) (cell right k) in
    let bits = rw (c.part_of-left_part.ensures, c.part_of-right_part.ensures) at c.columns_mask-mask.ensures in
    kept_more (λ k. is_marked c.args.known.now k && p k) n (length left) (bit_and c.word.result c.columns_mask-mask.result) c.args.marks.now c.loop-index.marks c.keep_word.new.self c.loop-index.invariant c.requires.within
    (known_bits p n (length left) c.word.result c.columns_mask-mask.result c.args.known.now c.word.ensures.bits
    (λ i h w. bits i (omega (arith, length-part left n)) ∙ ap (λ x. compares c.args.op x (cell (take 64 (drop (64 * n) right)) i)) (get_or-part left n i (pos 0) h)
    ∙ ap (compares c.args.op (cell left (64 * n + i))) (get_or-part right n i (pos 0) h)))
    c.keep_word.ensures.kept
