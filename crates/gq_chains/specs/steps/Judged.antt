-- What was tried of a place, by its answer alone.
use Rattle.std.specs.Prelude.{◌≡◌, ℕ, Bool}
use Rattle.gq_plan.specs.declared.assignment.Assignment.{Assignment}
use Rattle.gq_steps.specs.Levels.{Run, known}
use Rattle.gq_steps.specs.Moves.{IsHeld, IsAlike}
use Rattle.gq_steps.specs.declared.group_steps.GroupSteps.{GroupSteps}
use Rattle.gq_steps.specs.Keeps.{makes_one}

-- whether the steps of a group make something of a place was told; what is bound before the group stays as it is
pub record IsJudged (c : Run) (group : GroupSteps) (place : ℕ) (old : Assignment) (told : Bool) (new : Assignment) : Type 0 where
  pub held : IsHeld c new (known c group.first)
  pub alike : IsAlike (known c group.first) old new
  pub answer : told ≡ makes_one c group place old
