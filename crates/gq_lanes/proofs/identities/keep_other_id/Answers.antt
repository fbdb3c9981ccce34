use Rattle.std.proofs.Common.{ℕ, length, get_or, not, ap, ◌∙◌, arith, w64}
use Rattle.std.specs.Prelude.{◌==◌}
use Rattle.std.specs.Int.{bit_not}
use Rattle.gq_bits.proofs.Words.{test-bit_not}
use Rattle.gq_lanes.proofs.Kept.{kept_more, length-part, get_or-part}
use Rattle.gq_lanes.proofs.identities.keep_other_id.Goals as goal

pub id_mask-mask-requires : goal.id_mask-mask-requires
id_mask-mask-requires c = omega (arith, ap length c.part_of.ensures, length-part c.args.ids.now c.loop-index.index)

pub loop-index-preserved : goal.loop-index-preserved
loop-index-preserved c =
    let n : ℕ = c.loop-index.index in
    let ids = c.args.ids.now in
    let bits = rw c.part_of.ensures at c.id_mask-mask.ensures in
    kept_more (λ k. not (get_or ids k 0 == c.args.id)) n (length ids) (bit_not w64 c.id_mask-mask.result) c.args.marks.now c.loop-index.marks c.keep_word.new.self c.loop-index.invariant c.requires.within
    (λ i h w. test-bit_not c.id_mask-mask.result i (omega (arith, c.id_mask-mask.type_inv)) h ∙ ap not (bits i (omega (arith, length-part ids n)) ∙ ap (λ x. x == c.args.id) (get_or-part ids n i 0 h))) c.keep_word.ensures.kept
