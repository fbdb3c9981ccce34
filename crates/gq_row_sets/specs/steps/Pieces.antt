-- Rows in pieces of as many as a vector has places.
use Rattle.std.specs.Prelude.{ℕ, ◌≡◌, ◌*◌, ◌/◌, ◌%◌, min, List, [], Bool, length, map, slice_index_or}
use Rattle.std.specs.List.{range_with_len}
use Rattle.gq_bits.specs.Places.{is_marked}
use Rattle.gq_bits.specs.declared.TheConstants.{VECTOR}

-- whether a row is marked in its piece
abbrev pub in_pieces : List (List Bool) → ℕ → Bool
in_pieces pieces row = is_marked (slice_index_or pieces (row / VECTOR) []) (row % VECTOR)

-- the same of the first rows
abbrev pub first_rows : ℕ → List (List Bool) → List Bool
first_rows count pieces = map (in_pieces pieces) (range_with_len 0 count)

-- of so many of a table's rows the pieces tell: of all of their own that are rows of the table
abbrev pub AreTold : ℕ → ℕ → List (List Bool) → Type 0
AreTold rows told pieces = told ≡ min rows (VECTOR * length pieces)
