-- The halves in which a column close runs: one takes the relationship of the source, the other tests where that leads. So a test of the
-- relationship may stand between them.
use Rattle.std.specs.Prelude.{ℕ, ◌+◌, Bool, true, not, ◌&&◌, IsTrue, List, [], ◌∷◌, ◌++◌, map, flat_map, slice_get, slice_index_or}
use Rattle.gq_base.specs.Catalogs.{Tables}
use Rattle.gq_base.specs.declared.direction.Direction.{Direction}
use Rattle.gq_plan.specs.Columns.{steps_of}
use Rattle.gq_plan.specs.Covers.{after_step, fits_step, goes}
use Rattle.gq_plan.specs.Known.{Known, none}
use Rattle.gq_plan.specs.Meaning.{holds}
use Rattle.gq_plan.specs.Plans.{Plan, Done, Then, Step, Close, Keep, Single, Meet, steps}
use Rattle.gq_plan.specs.declared.halves.Half.{Half}
use Rattle.gq_plan.specs.declared.halves.Half.TheVariants.{Whole, First, Second}
use Rattle.gq_plan.specs.declared.halves.StepHalf.{StepHalf}
use Rattle.gq_plan.specs.declared.typed.Typed.{Typed}

-- how a step runs
abbrev pub halves_of : Step → List Half
halves_of (Close true x from to direction) = First ∷ Second ∷ []
halves_of s = Whole ∷ []

abbrev pub close_half : Half → ℕ → ℕ → ℕ → Direction → Step
close_half Whole x from to direction = Close true x from to direction
close_half First x from to direction = Single x from to direction
close_half Second x from to direction = Meet x from to direction

-- a half of a column close; of another step all of it
abbrev pub half_of : Half → Step → Step
half_of h (Close true x from to direction) = close_half h x from to direction
half_of h s = s

-- a step as it runs
abbrev pub halves : Step → List Step
halves s = map (λ h. half_of h s) (halves_of s)

-- a plan with its column closes in halves
abbrev pub halved : Plan → Plan
halved p = steps (flat_map halves (steps_of p))

-- the same by the numbers of the steps, from one on
abbrev pub numbered_halves : ℕ → List Step → List StepHalf
numbered_halves i [] = []
numbered_halves i (s ∷ ss) = map (λ h. record { step = i; half = h }) (halves_of s) ++ numbered_halves (i + 1) ss

-- the step of a numbered half, among these
abbrev pub half_in : List Step → StepHalf → Step
half_in ss q = half_of q.half (slice_index_or ss q.step (Keep 0))

module _ (catalog : Tables) (y : Typed) where
  -- a step fits as it runs: of a column close the first half asks for the source, the second for both ends
  abbrev pub runs_step : Step → Known → Bool
  runs_step (Single x from to direction) k = holds (goes catalog true from to direction) (slice_get y.rels x) && (not (k.rels x) && k.nodes from)
  runs_step (Meet x from to direction) k = holds (goes catalog true from to direction) (slice_get y.rels x) && (k.nodes from && k.nodes to)
  runs_step s k = fits_step catalog y s k

  unfoldable pub runs : Plan → Known → Bool
  runs Done k = true
  runs (Then s p) k = runs_step s k && runs p (after_step s k)

-- steps fit one after another as they run
abbrev pub Runs : Tables → Typed → Plan → Type 0
Runs catalog y p = IsTrue (runs catalog y p none)
