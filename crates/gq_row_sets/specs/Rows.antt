-- Sets of the first rows of a table.
use Rattle.std.specs.Prelude.{ℕ, ◌+◌, ◌-◌, ◌++◌, min, List, [], Bool, length, take}
use Rattle.gq_bits.specs.declared.TheConstants.{VECTOR}

-- how many rows a table has, and whether the first of them are in a set, one by one
pub record RowsTold : Type 0 where
  pub rows : ℕ
  pub told : List Bool

abbrev pub nothing_told : ℕ → RowsTold
nothing_told rows = record { rows = rows; told = [] }

-- where the piece ends of which it is told next
abbrev pub next_end : RowsTold → ℕ
next_end s = min s.rows (length s.told + VECTOR)

-- the same, when it is told of that piece by the marks of a vector
abbrev pub also_told : RowsTold → List Bool → RowsTold
also_told s marks = record { rows = s.rows; told = s.told ++ take (next_end s - length s.told) marks }
