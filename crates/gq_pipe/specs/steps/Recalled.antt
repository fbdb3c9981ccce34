-- What is remembered of the lists of groups.
use Rattle.std.specs.Prelude.{◌≡◌, ◌<◌, ℕ, Option, Some, List, length, slice_get}
use Rattle.gq_sift.specs.Remembered.{IsRemembered}
use Rattle.gq_sift.specs.declared.remembered.Remembered.{Remembered}
use Rattle.gq_steps.specs.Groups.{group_at}
use Rattle.gq_steps.specs.Keeps.{IsTold}
use Rattle.gq_steps.specs.Levels.{Run}
use Rattle.gq_steps.specs.declared.group_steps.GroupSteps.{GroupSteps}

-- each group is told what it does and how its places are found
abbrev pub AreTold : Run → List GroupSteps → Type 0
AreTold c ss = (depth : ℕ) → depth < length ss → IsTold c (group_at ss depth)

-- of each group that has it, it is that of its own list
abbrev pub AreRemembered : Run → List GroupSteps → List (Option Remembered) → Type 0
AreRemembered c ss ms = (depth : ℕ) (m : Remembered) → slice_get ms depth ≡ Some (Some m) → IsRemembered c (group_at ss depth) m

-- so of the group at a depth
abbrev pub IsOwn : Run → GroupSteps → List (Option Remembered) → ℕ → Type 0
IsOwn c group ms depth = (m : Remembered) → slice_get ms depth ≡ Some (Some m) → ∥ IsRemembered c group m ∥₁
