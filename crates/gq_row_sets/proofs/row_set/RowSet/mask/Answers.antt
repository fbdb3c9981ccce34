use Rattle.std.proofs.Common.{arith}
use Rattle.std.specs.Prelude.{slice_index}
use Rattle.gq_bits.specs.Places.{is_marked}
use Rattle.gq_lanes.proofs.Bits.{one_bit}
use Rattle.gq_row_sets.proofs.row_set.RowSet.mask.Goals as goal

pub loop-place-preserved : goal.loop-place-preserved
loop-place-preserved c =
    rw c.from.ensures
    (one_bit (λ i. is_marked c.args.self.now.told (slice_index c.args.rows.now i)) c.loop-place.place c.loop-place.mask c.has.result c.loop-place.invariant
    (omega (arith, c.requires.few, c.loop-place-test.true)) c.has.ensures)
