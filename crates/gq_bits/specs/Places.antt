-- Marks as a list of truth values, one for each place.
use Rattle.std.specs.Prelude.{ℕ, ◌/◌, ◌%◌, List, Bool, true, false, slice_index_or, ◌==◌, if◌then◌else◌}
use Rattle.std.specs.Int.{bit_at}

-- whether a place is marked; past the end none is
abbrev pub is_marked : List Bool → ℕ → Bool
is_marked marks place = slice_index_or marks place false

-- whether a mask of the 64 places from 64 * index on allows a place; it allows every other place
abbrev pub allows : ℕ → ℕ → ℕ → Bool
allows index mask place = if place / 64 == index then bit_at mask (place % 64) == 1 else true
