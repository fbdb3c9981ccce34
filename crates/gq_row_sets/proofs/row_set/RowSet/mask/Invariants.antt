use Rattle.std.specs.Prelude.{slice_index}
use Rattle.gq_bits.specs.Places.{is_marked}
use Rattle.gq_lanes.proofs.Bits.{AreBits}
use Rattle.gq_row_sets.proofs.row_set.RowSet.mask.Given as goal

abbrev pub invariant-loop-place : goal.invariant-loop-place
invariant-loop-place l = AreBits (λ i. is_marked l.fn.self.told (slice_index l.fn.rows i)) l.place l.mask
