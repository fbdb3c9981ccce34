-- The tests of the kernels, on one place.
use Rattle.std.specs.Prelude.{ℕ, ℤ, pos, Bool, not, ◌&&◌, List, slice_index_or, int_lt, int_le}
use Rattle.std.specs.Ordering.{int_eq}
use Rattle.gq_lanes.specs.declared.lanes.LaneOp.{LaneOp}
use Rattle.gq_lanes.specs.declared.lanes.LaneOp.TheVariants.{Equal, NotEqual, Less, LessEqual, Greater, GreaterEqual}

-- the cell at a place
abbrev pub cell : List ℤ → ℕ → ℤ
cell cells place = slice_index_or cells place (pos 0)

-- whether two cells compare so
abbrev pub compares : LaneOp → ℤ → ℤ → Bool
compares Equal a b = int_eq a b
compares NotEqual a b = not (int_eq a b)
compares Less a b = int_lt a b
compares LessEqual a b = int_le a b
compares Greater a b = int_lt b a
compares GreaterEqual a b = int_le b a

-- whether a cell stands from one number to below another
abbrev pub is_between : ℤ → ℤ → ℤ → Bool
is_between low high a = int_le low a && int_lt a high
