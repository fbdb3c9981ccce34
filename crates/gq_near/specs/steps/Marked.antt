-- Rows that are marked.
use Rattle.std.specs.Prelude.{◌≡◌, ◌<◌, ℕ, ◌/◌, ◌%◌, List, Bool, true, Option, Some, None, length, slice_get, All, IfSome}
use Rattle.gq_base.specs.Plain.{Graph}
use Rattle.gq_base.specs.declared.direction.Direction.{Direction}
use Rattle.gq_bits.specs.Places.{is_marked}
use Rattle.gq_bits.specs.declared.TheConstants.{VECTOR}
use Rattle.gq_store.specs.Neighbours.{is_listed, near_rows, neighbours}

-- a row is marked in its piece, or there is no such piece
abbrev pub marked_in : Option (List Bool) → ℕ → Bool
marked_in None place = true
marked_in (Some marks) place = is_marked marks place

abbrev pub may_have : List (List Bool) → ℕ → Bool
may_have pieces row = marked_in (slice_get pieces (row / VECTOR)) (row % VECTOR)

-- relationships are followed in lists, from so many rows
pub record CanList (g : Graph) (table : ℕ) (direction : Direction) (rows : ℕ) : Type 0 where
  pub within : table < length g.catalog.rels
  pub listed : is_listed g table direction ≡ true
  pub many : rows ≡ near_rows g table direction

-- the neighbours of a row are marked, if one is told
abbrev pub AreMarked : Graph → ℕ → Direction → List (List Bool) → Option ℕ → Type 0
AreMarked g table direction pieces of = IfSome of (λ row. All (λ other. may_have pieces other ≡ true) (neighbours g table direction row))
