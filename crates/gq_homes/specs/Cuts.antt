-- The steps of a plan cut into its groups, one for each step that makes one, with the steps up to the next one.
use Rattle.std.specs.Prelude.{◌≡◌, ◌<◌, ◌≤◌, ℕ, Bool, false, List, [], ◌∷◌, length, slice_index_or}
use Rattle.gq_plan.specs.Plans.{Plan, Done, Then, Step}
use Rattle.gq_law_groups.specs.Groups.{Group, makes_group, cut_from}
use Rattle.gq_law_groups.specs.Order.{AreCut}
use Rattle.gq_steps.specs.Actions.{action_of}
use Rattle.gq_steps.specs.Groups.{group_at, groups_in}
use Rattle.gq_steps.specs.Levels.{Run, step_at}
use Rattle.gq_steps.specs.Tests.{IsCut}
use Rattle.gq_steps.specs.declared.group_steps.GroupSteps.{GroupSteps}

-- a group has the steps from one on up to another, and is told of them
pub record IsGroupOf (c : Run) (from to : ℕ) (told : Bool) (s : GroupSteps) : Type 0 where
  pub first : s.first ≡ from
  pub end : s.end ≡ to
  pub flat : s.flat ≡ told
  pub action : s.action ≡ action_of (step_at c from)
  pub cut : IsCut c from to s.cut

-- whether the group of a number is to be flat
abbrev pub flag : List Bool → ℕ → Bool
flag flat i = slice_index_or flat i false

-- groups of steps, one after another, from a step on up to another one
abbrev pub TilesTo : List Step → ℕ → List GroupSteps → ℕ → Type 0
TilesTo ss from [] to = from ≡ to
TilesTo ss from (s ∷ gs) to = (s.first ≡ from) × (s.first < s.end) × (s.end ≤ length ss) × TilesTo ss s.end gs to

-- the steps before one are cut into groups
pub record IsCutTo (c : Run) (flat : List Bool) (gs : List GroupSteps) (to : ℕ) : Type 0 where
  pub tiles : TilesTo c.steps 0 gs to
  pub cut : AreCut (groups_in c gs)
  pub flags : (i : ℕ) → i < length gs → (group_at gs i).flat ≡ flag flat i
  pub actions : (i : ℕ) → i < length gs → (group_at gs i).action ≡ action_of (step_at c (group_at gs i).first)
  pub cuts : (i : ℕ) → i < length gs → IsCut c (group_at gs i).first (group_at gs i).end (group_at gs i).cut

-- the groups of a plan that begins with a step that makes one
abbrev pub groups_of : Plan → List Group
groups_of Done = []
groups_of (Then s p) = cut_from s [] p

abbrev pub begins : Plan → Bool
begins Done = false
begins (Then s p) = makes_group s
