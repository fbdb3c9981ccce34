use Rattle.std.proofs.Common.{ℕ, length, get_or, ap, ◌∙◌, arith}
use Rattle.std.specs.Prelude.{◌==◌}
use Rattle.gq_lanes.proofs.Kept.{kept_more, length-part, get_or-part}
use Rattle.gq_lanes.proofs.identities.keep_equal_id.Goals as goal

pub id_mask-mask-requires : goal.id_mask-mask-requires
id_mask-mask-requires c = omega (arith, ap length c.part_of.ensures, length-part c.args.ids.now c.loop-index.index)

pub loop-index-preserved : goal.loop-index-preserved
loop-index-preserved c =
    let n : ℕ = c.loop-index.index in
    let ids = c.args.ids.now in
    let bits = rw c.part_of.ensures at c.id_mask-mask.ensures in
    kept_more (λ k. get_or ids k 0 == c.args.id) n (length ids) c.id_mask-mask.result c.args.marks.now c.loop-index.marks c.keep_word.new.self c.loop-index.invariant c.requires.within
    (λ i h w. bits i (omega (arith, length-part ids n)) ∙ ap (λ x. x == c.args.id) (get_or-part ids n i 0 h)) c.keep_word.ensures.kept
