-- What the steps of a group make of one place of its whole list.
use Rattle.std.specs.Prelude.{◌≡◌, ℕ, ◌+◌, ◌-◌, ◌<◌, ◌≤◌, MatchBool, Bool, false, ◌&&◌, nat_lt, List, [], ◌∷◌, flat_map, length, take, drop, slice_index_or}
use Rattle.gq_bits.specs.declared.TheConstants.{VECTOR}
use Rattle.gq_plan.specs.Meaning.{Partial, mean}
use Rattle.gq_plan.specs.Plans.{steps}
use Rattle.gq_plan.specs.declared.assignment.Assignment.{Assignment}
use Rattle.gq_search.specs.Layouts.{has_one}
use Rattle.gq_law_groups.specs.Groups.{makes_group}
use Rattle.gq_steps.specs.Actions.{action_of}
use Rattle.gq_steps.specs.Levels.{Run, step_at, built_at, known, before}
use Rattle.gq_steps.specs.Moves.{IsHeld, IsAlike, IsMade}
use Rattle.gq_steps.specs.Tests.{IsCut}
use Rattle.gq_steps.specs.Tries.{tries}
use Rattle.gq_steps.specs.declared.group_steps.GroupSteps.{GroupSteps}

-- what the steps from one on up to another make of a partial assignment
abbrev pub made_by : Run → ℕ → ℕ → Partial → List Partial
made_by c from end a = mean c.graph c.typed (steps (take (end - from) (drop from c.steps))) a

-- what the steps of a group make at a place
abbrev pub made_at : Run → GroupSteps → ℕ → Assignment → List Partial
made_at c group place row = flat_map (made_by c (group.first + 1) group.end) (slice_index_or (tries c.graph c.typed (built_at c group.first) (step_at c group.first) (before c row group.first)) place [])

-- steps of the plan; it is told what the first one does, and how the places are found that all of them keep
pub record IsTold (c : Run) (group : GroupSteps) : Type 0 where
  pub some : group.first < group.end
  pub inside : group.end ≤ length c.steps
  pub action : group.action ≡ action_of (step_at c group.first)
  pub cut : IsCut c group.first group.end group.cut

-- so it is told, and those after the first one make no group, and at most one assignment each
pub record IsRange (c : Run) (group : GroupSteps) : Type 0 where
  pub some : group.first < group.end
  pub inside : group.end ≤ length c.steps
  pub action : group.action ≡ action_of (step_at c group.first)
  pub cut : IsCut c group.first group.end group.cut
  pub tests : (d : ℕ) → group.first < d → d < group.end → makes_group (step_at c d) ≡ false
  pub small : (d : ℕ) → group.first < d → d < group.end → (a : Partial) → length (tries c.graph c.typed (built_at c d) (step_at c d) a) ≤ 1

-- all of them made something, each as the assignment that stands has it; or they make nothing
pub record IsPlaceMade (c : Run) (group : GroupSteps) (place : ℕ) (old new : Assignment) : Type 0 where
  pub held : IsHeld c new (known c group.end)
  pub first_made : IsMade c group.first place new new
  pub others_made : (d : ℕ) → group.first < d → d < group.end → IsMade c d 0 new new
  pub made : made_at c group place old ≡ before c new group.end ∷ []

pub record IsTriedAt (c : Run) (group : GroupSteps) (place : ℕ) (old : Assignment) (told : Bool) (new : Assignment) : Type 0 where
  pub held : IsHeld c new (known c group.first)
  pub alike : IsAlike (known c group.first) old new
  pub answer : MatchBool told (IsPlaceMade c group place old new) (made_at c group place old ≡ [])

-- of so many places from one on, those at which the steps of a group make something
abbrev pub makes_one : Run → GroupSteps → ℕ → Assignment → Bool
makes_one c group place row = has_one (made_at c group place row)

-- the marks of places that were tried one after another
pub record IsSifted (c : Run) (group : GroupSteps) (first count : ℕ) (old new : Assignment) (marks : List Bool) : Type 0 where
  pub held : IsHeld c new (known c group.first)
  pub alike : IsAlike (known c group.first) old new
  pub len : length marks ≡ VECTOR
  pub each : (j : ℕ) → j < VECTOR → slice_index_or marks j false ≡ (nat_lt j count && makes_one c group (first + j) old)
