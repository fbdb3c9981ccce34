-- Groups whose tests rows alone decide, or the relationship that they follow.
use Rattle.std.specs.Prelude.{ℕ, ◌<◌}
use Rattle.gq_chains.specs.steps.Extends.{Extends}
use Rattle.gq_steps.specs.Tests.{IsListTest}
use Rattle.gq_steps.specs.Levels.{Run}
use Rattle.gq_steps.specs.declared.group_steps.GroupSteps.{GroupSteps}
use Rattle.gq_plan.specs.declared.follow.Follow.{Follow}

-- a group follows a relationship to a node that was not bound, and rows alone or its load numbers decide its other steps
pub record ReadsRows (c : Run) (group : GroupSteps) (f : Follow) : Type 0 where
  pub extends : Extends c group.first f
  pub tests : (d : ℕ) → group.first < d → d < group.end → IsListTest c d f
