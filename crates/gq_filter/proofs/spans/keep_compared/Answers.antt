use Rattle.std.proofs.Common.{◌≡◌, ◌+◌, ◌*◌, ◌∙◌, ℕ, arith}
use Rattle.gq_filter.proofs.Kept.{at_row}
use Rattle.gq_lanes.proofs.Kept.{kept_more}
use Rattle.gq_filter.proofs.spans.keep_compared.Goals as goal

pub loop-index-preserved : goal.loop-index-preserved
loop-index-preserved c =
    let n : ℕ = c.loop-index.index in
    let low = c.args.low in
    kept_more _ n c.args.count c.compared_mask-mask.result c.args.marks.now c.loop-index.marks c.keep_word.new.self c.loop-index.invariant c.requires.within
    (λ i h w.
    let row : low + 64 * n + i ≡ low + (64 * n + i) = omega arith in
    c.compared_mask-mask.ensures i (omega (arith, h, w)) ∙ at_row _ c.args.column.now _ _ row)
    c.keep_word.ensures.kept
