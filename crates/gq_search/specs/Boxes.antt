-- The layout of a product of ranges.
use Rattle.std.specs.Prelude.{true, false, List, length, slice_index_or}
use Rattle.gq_search.specs.Layouts.{Layout}
use Rattle.gq_search.specs.declared.boxes.Side.{Side}

abbrev pub no_side : Side
no_side = record { size = 0; flat = false }

abbrev pub box_layout : List Side → Layout
box_layout sides = record {
  flat = λ pre. (slice_index_or sides (length pre) no_side).flat;
  size = λ pre. (slice_index_or sides (length pre) no_side).size;
  keeps = λ pre j. true;
}
