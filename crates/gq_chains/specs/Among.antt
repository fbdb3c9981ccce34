-- Places of a part of a group's list among which are all that its steps keep.
use Rattle.std.specs.Prelude.{◌≡◌, ℕ, ◌+◌, ◌<◌, Bool, true, false, List, length}
use Rattle.gq_bits.specs.Places.{is_marked}
use Rattle.gq_bits.specs.declared.TheConstants.{VECTOR}
use Rattle.gq_plan.specs.declared.assignment.Assignment.{Assignment}
use Rattle.gq_steps.specs.Keeps.{makes_one}
use Rattle.gq_steps.specs.Levels.{Run}
use Rattle.gq_steps.specs.declared.group_steps.GroupSteps.{GroupSteps}

-- of so many places from one on, the marked ones are among them, and at the others the steps make nothing
pub record IsAmong (c : Run) (group : GroupSteps) (first count : ℕ) (row : Assignment) (marks : List Bool) : Type 0 where
  pub len : length marks ≡ VECTOR
  pub below : (j : ℕ) → is_marked marks j ≡ true → j < count
  pub others : (j : ℕ) → j < count → is_marked marks j ≡ false → makes_one c group (first + j) row ≡ false
