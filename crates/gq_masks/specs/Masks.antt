-- The rows from which relationships lead to chosen rows.
use Rattle.std.specs.Prelude.{◌≡◌, ◌+◌, ◌<◌, ◌/◌, ◌%◌, ℕ, min, List, Bool, true, Option, Some, None, All, slice_get}
use Rattle.gq_base.specs.Plain.{Graph}
use Rattle.gq_base.specs.declared.direction.Direction.{Direction}
use Rattle.gq_bits.specs.Places.{is_marked}
use Rattle.gq_bits.specs.declared.TheConstants.{VECTOR}
use Rattle.gq_store.specs.Neighbours.{near_rows, neighbours}

-- the relationships of a table of a graph, as they are followed in a direction, of how many rows from which they are followed it is told, and
-- marks of the rows to which they lead
pub record RowsReached : Type 0 where
  pub graph : Graph
  pub table : ℕ
  pub direction : Direction
  pub told : ℕ
  pub marked : List (List Bool)

-- a row is marked in its piece, or there is no such piece
abbrev pub marked_in : Option (List Bool) → ℕ → Bool
marked_in None place = true
marked_in (Some marks) place = is_marked marks place

abbrev pub may_have : List (List Bool) → ℕ → Bool
may_have pieces row = marked_in (slice_get pieces (row / VECTOR)) (row % VECTOR)

abbrev pub may_reach : RowsReached → ℕ → Bool
may_reach m row = may_have m.marked row

-- of the rows of which it is told, each to which a relationship leads from a chosen one is marked
abbrev pub AreReached : RowsReached → (ℕ → Bool) → Type 0
AreReached m chosen = (q : ℕ) → q < m.told → chosen q ≡ true → All (λ row. may_reach m row ≡ true) (neighbours m.graph m.table m.direction q)

-- where the piece ends of which it is told next
abbrev pub next_end : RowsReached → ℕ
next_end m = min (near_rows m.graph m.table m.direction) (m.told + VECTOR)

-- the chosen ones of the rows from one on up to another are marked
abbrev pub IsPart : (ℕ → Bool) → ℕ → ℕ → List Bool → Type 0
IsPart chosen low high marks = (k : ℕ) → low + k < high → chosen (low + k) ≡ true → is_marked marks k ≡ true
