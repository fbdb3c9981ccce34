-- The values of a lane.
use Rattle.std.specs.Prelude.{ℕ, ℤ, pos, Bool, true, false, List, slice_index_or}
use Rattle.gq_base.specs.Values.{Val, int, val}
use Rattle.gq_base.specs.declared.value.Value.{Value}
use Rattle.gq_base.specs.declared.value.Value.TheVariants as value
use Rattle.gq_cells.specs.declared.lane.Lane.{Lane}

abbrev pub val_among : Bool → List ℤ → List Value → ℕ → Val
val_among true integers values k = int (slice_index_or integers k (pos 0))
val_among false integers values k = val (slice_index_or values k value.Null)

-- the value at a place: an integer, where the lane has integers
abbrev pub lane_val : Lane → ℕ → Val
lane_val lane k = val_among lane.has_integers lane.integers lane.values k
