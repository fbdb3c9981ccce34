-- Branching: the search gives a relationship pattern that has several readings each of them in turn.
use Rattle.std.specs.Prelude.{◌≡◌, ℕ, zero, suc, ◌<◌, Bool, true, Option, Some, None, List, [], ◌∷◌, map, length, take, nat_le, slice_get}
use Rattle.std.specs.List.{list_all}
use Rattle.gq_alternatives.specs.Alternatives.{Reading}
use Rattle.gq_choices.specs.steps.Searching.{Found}
use Rattle.gq_alternatives.specs.Candidates.{Step}

-- a relationship pattern has no more than one reading
abbrev pub is_decided : Step → Bool
is_decided s = nat_le (length s.readings) 1

-- the relationship patterns, of which the one at this place has this reading alone
unfoldable pub deciding : ℕ → Reading → List Step → List Step
deciding at c [] = []
deciding zero c (s ∷ ss) = record { pattern = s.pattern; readings = c ∷ [] } ∷ ss
deciding (suc at) c (s ∷ ss) = s ∷ deciding at c ss

abbrev readings_in : Option Step → List Reading
readings_in None = []
readings_in (Some s) = s.readings

-- the readings of the pattern at a place
abbrev pub readings_at : List Step → ℕ → List Reading
readings_at ss at = readings_in (slice_get ss at)

-- there is a pattern at this place, and those before it have no more than one reading
pub record IsOpen (at : ℕ) (ss : List Step) : Type 0 where
  pub within : at < length ss
  pub decided : list_all is_decided (take at ss) ≡ true

-- nothing is known of the variables' tables
abbrev pub unknown : List (List ℕ) → List (Option ℕ)
unknown tables = map (λ l. None) tables

-- no table is known or chosen, and no reading
pub record IsBlank (lists : List (List ℕ)) (found : Found) : Type 0 where
  pub known : found.known ≡ unknown lists
  pub readings : found.readings ≡ []
  pub tables : found.tables ≡ []
