-- Places of a step's list among which are all at which it makes something.
use Rattle.std.specs.Prelude.{◌≡◌, ℕ, ◌+◌, ◌<◌, ◌==◌, Bool, true, false, Option, Some, None, List, [], length, slice_get, slice_index_or}
use Rattle.gq_bits.specs.declared.TheConstants.{VECTOR}
use Rattle.gq_plan.specs.declared.assignment.Assignment.{Assignment}
use Rattle.gq_steps.specs.Levels.{Run, step_at, built_at, before}
use Rattle.gq_steps.specs.Tries.{tries}

abbrev pub is_row : ℕ → Option ℕ → Bool
is_row row None = false
is_row row (Some r) = r == row

-- whether a row stands at a place of a list
abbrev pub leads_to : List ℕ → ℕ → ℕ → Bool
leads_to list place row = is_row row (slice_get list place)

-- of so many places from one on, the marked ones are among them, and at the others a step makes nothing
pub record AreCandidates (c : Run) (d first count : ℕ) (row : Assignment) (marks : List Bool) : Type 0 where
  pub len : length marks ≡ VECTOR
  pub below : (j : ℕ) → slice_index_or marks j false ≡ true → j < count
  pub others : (j : ℕ) → j < count → slice_index_or marks j false ≡ false
      → slice_index_or (tries c.graph c.typed (built_at c d) (step_at c d) (before c row d)) (first + j) [] ≡ []
