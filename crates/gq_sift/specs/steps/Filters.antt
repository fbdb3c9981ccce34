-- Groups that scan a node table or follow a list, and keep what conditions keep.
use Rattle.std.specs.Prelude.{◌≡◌, ℕ, ◌<◌, ◌≤◌, Bool, true, false, Some, length}
use Rattle.gq_plan.specs.Plans.{Step, Scan, Extend}
use Rattle.gq_steps.specs.Levels.{Run, step_at}
use Rattle.gq_sift.specs.steps.RowTests.{ReadsRows}
use Rattle.gq_steps.specs.Tests.{test_of}
use Rattle.gq_steps.specs.declared.group_steps.GroupSteps.{GroupSteps}
use Rattle.gq_plan.specs.declared.follow.Follow.{Follow}

-- a group has a step, and its steps are steps of the plan
pub record IsWithin (c : Run) (group : GroupSteps) : Type 0 where
  pub some : group.first < group.end
  pub inside : group.end ≤ length c.steps

-- the step at a depth scans a node variable
abbrev pub Scans : Run → ℕ → ℕ → Type 0
Scans c d v = step_at c d ≡ Scan v

-- a group scans a node variable, and its other steps ask for conditions
pub record Filters (c : Run) (group : GroupSteps) (v : ℕ) : Type 0 where
  pub scans : Scans c group.first v
  pub tests : (d : ℕ) → group.first < d → d < group.end → (i : ℕ) × (test_of (step_at c d) ≡ Some i)

-- a step follows relationships in a list to a node that was not bound
abbrev pub is_listed_step : Step → Bool
is_listed_step (Extend false x from to direction) = true
is_listed_step s = false

-- a group follows relationships in a list so, and its other steps ask for conditions that rows alone decide
pub record FiltersList (c : Run) (group : GroupSteps) (f : Follow) : Type 0 where
  pub reads : ReadsRows c group f
  pub listed : is_listed_step (step_at c group.first) ≡ true
