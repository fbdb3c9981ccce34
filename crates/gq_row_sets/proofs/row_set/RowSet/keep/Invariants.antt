use Rattle.std.specs.Prelude.{slice_index}
use Rattle.gq_bits.specs.Places.{is_marked}
use Rattle.gq_lanes.proofs.Kept.{Kept}
use Rattle.gq_row_sets.proofs.row_set.RowSet.keep.Given as goal

abbrev pub invariant-loop-index : goal.invariant-loop-index
invariant-loop-index l = Kept (λ k. is_marked l.fn.self.told (slice_index l.fn.rows k)) l.index l.fn.marks l.marks
