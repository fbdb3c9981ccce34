use Rattle.std.proofs.Common.{refl, arith}
use Rattle.std.specs.Prelude.{◌==◌, slice_index}
use Rattle.gq_lanes.proofs.Bits.{one_bit}
use Rattle.gq_lanes.proofs.lanes.id_bits.Goals as goal

pub loop-place-preserved : goal.loop-place-preserved
loop-place-preserved c =
    rw c.from.ensures
    (one_bit (λ i. slice_index c.args.ids.now i == c.args.id) c.loop-place.place c.loop-place.mask (slice_index c.args.ids.now c.loop-place.place == c.args.id) c.loop-place.invariant
    (omega (arith, c.requires, c.loop-place-test.true)) refl)
