use Rattle.std.proofs.Common.{ℕ, ◌*◌, ◌<◌, length, drop, get_or, ap, ◌∙◌, arith}
use Rattle.std.proofs.lemmas.List.Elements.{All-drop, All-take}
use Rattle.gq_bits.specs.Places.{is_marked}
use Rattle.gq_lanes.proofs.Kept.{kept_more, length-part, get_or-part}
use Rattle.gq_row_sets.proofs.row_set.RowSet.keep.Goals as goal

pub mask-mask-requires-clause-few : goal.mask-mask-requires-clause-few
mask-mask-requires-clause-few c = omega (arith, ap length c.part_of.ensures, length-part c.args.rows.now c.loop-index.index)

pub mask-mask-requires-clause-told : goal.mask-mask-requires-clause-told
mask-mask-requires-clause-told c =
    let low : ℕ → Type 0 = λ row. row < length c.args.self.now.told in
    rw c.part_of.ensures (All-take low 64 (drop (64 * c.loop-index.index) c.args.rows.now) (All-drop low (64 * c.loop-index.index) c.args.rows.now c.requires.told))

pub loop-index-preserved : goal.loop-index-preserved
loop-index-preserved c =
    let n : ℕ = c.loop-index.index in
    let rows = c.args.rows.now in
    let told = c.args.self.now.told in
    let bits = rw c.part_of.ensures at c.mask-mask.ensures in
    kept_more (λ k. is_marked told (get_or rows k 0)) n (length rows) c.mask-mask.result c.args.marks.now c.loop-index.marks c.keep_word.new.self c.loop-index.invariant c.requires.within
    (λ i h w. bits i (omega (arith, length-part rows n)) ∙ ap (is_marked told) (get_or-part rows n i 0 h)) c.keep_word.ensures.kept
