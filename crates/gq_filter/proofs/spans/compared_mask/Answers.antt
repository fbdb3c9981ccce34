use Rattle.std.proofs.Common.{◌∙◌, ap, arith}
use Rattle.gq_filter.specs.LaneTests.{passes}
use Rattle.gq_lanes.proofs.Bits.{one_bit}
use Rattle.gq_filter.proofs.spans.compared_mask.Goals as goal

pub loop-place-preserved : goal.loop-place-preserved
loop-place-preserved c =
    rw c.from.ensures
    (one_bit _ c.loop-place.place c.loop-place.mask c.compared-on.result c.loop-place.invariant (omega (arith, c.requires.few, c.loop-place-test.true))
    (c.compared-on.ensures ∙ ap (passes _) c.cell_at.ensures))
