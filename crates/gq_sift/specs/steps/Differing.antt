-- The place of a relationship in a list.
use Rattle.std.specs.Prelude.{◌≡◌, ℕ, ◌<◌, ◌≤◌, ◌==◌, false, Option, Some, None, List}
use Rattle.gq_sift.specs.steps.Candidates.{leads_to}

-- the only place of a number in a list, looked for from one place on up to another, or none where it is not there
abbrev pub IsPlaceOf : List ℕ → ℕ → ℕ → ℕ → Option ℕ → Type 0
IsPlaceOf numbers low high number None = (j : ℕ) → low ≤ j → j < high → leads_to numbers j number ≡ false
IsPlaceOf numbers low high number (Some place) = (low ≤ place) × (place < high) × ((j : ℕ) → leads_to numbers j number ≡ (j == place))
