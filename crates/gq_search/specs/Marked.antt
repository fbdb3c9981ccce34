-- Marks of one piece.
use Rattle.std.specs.Prelude.{◌≡◌, ℕ, ◌+◌, ◌*◌, ◌<◌, List, Bool, false, ◌&&◌, nat_lt, length, slice_index_or}
use Rattle.gq_bits.specs.declared.TheConstants.{VECTOR}
use Rattle.gq_search.specs.Layouts.{Layout}

-- the places from `first` on that are kept
pub record IsMarkedBy (kept : ℕ → Bool) (first : ℕ) (m : List Bool) : Type 0 where
  pub len : length m ≡ VECTOR
  pub each : (i : ℕ) → i < VECTOR → slice_index_or m i false ≡ kept (first + i)

-- a place of the next group is in its whole list and kept
abbrev pub kept_in : Layout → List ℕ → ℕ → Bool
kept_in l pre j = nat_lt j (l.size pre) && l.keeps pre j

-- the marks of piece p of the next group
abbrev pub IsMarkedAt : Layout → List ℕ → ℕ → List Bool → Type 0
IsMarkedAt l pre p m = IsMarkedBy (kept_in l pre) (VECTOR * p) m
