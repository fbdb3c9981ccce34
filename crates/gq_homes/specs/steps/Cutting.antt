-- The groups that were cut so far.
use Rattle.std.specs.Prelude.{◌≡◌, ◌<◌, ◌≤◌, ℕ, Bool, true, false, List, length}
use Rattle.gq_law_groups.specs.Groups.{makes_group}
use Rattle.gq_steps.specs.Levels.{Run, step_at}
use Rattle.gq_steps.specs.declared.group_steps.GroupSteps.{GroupSteps}
use Rattle.gq_homes.specs.Cuts.{IsCutTo}

-- the last group began at a step, and no other begins before the next one
pub record IsCutting (c : Run) (flat : List Bool) (gs : List GroupSteps) (first end : ℕ) : Type 0 where
  pub low : first < end
  pub high : end ≤ length c.steps
  pub starts : makes_group (step_at c first) ≡ true
  pub rest : (d : ℕ) → first < d → d < end → makes_group (step_at c d) ≡ false
  pub before : IsCutTo c flat gs first
