-- Marks of the vertices that have a relationship, on a side where each may have but one.
use Rattle.std.specs.Prelude.{ℕ, Bool, true, false, ◌&&◌, if◌then◌else◌, List, [], replicate, slice_set, get_or}

-- a side: whether a vertex may have but one relationship, and if so a mark for each vertex
pub record Marks : Type 0 where
  pub is_single : Bool
  pub marks : List Bool

-- a side of so many vertices that have no relationships
abbrev pub unmarked : Bool → ℕ → Marks
unmarked single count = record { is_single = single; marks = if single then replicate count false else [] }

-- a vertex has its one relationship
abbrev pub is_barred : Marks → ℕ → Bool
is_barred side row = side.is_single && get_or side.marks row false

-- the side on which a vertex has one more relationship
abbrev pub with_mark : Marks → ℕ → Marks
with_mark side row = if side.is_single then record side { marks = slice_set side.marks row true } else side
