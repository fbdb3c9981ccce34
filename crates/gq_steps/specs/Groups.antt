-- The groups of a plan, as ranges of its steps.
use Rattle.std.specs.Prelude.{◌≡◌, ◌∷◌, ℕ, ◌+◌, ◌-◌, ◌<◌, ◌≤◌, false, List, [], map, length, take, drop, slice_index_or}
use Rattle.gq_plan.specs.Plans.{Step, Keep}
use Rattle.gq_law_groups.specs.Groups.{Group}
use Rattle.gq_steps.specs.Levels.{Run}
use Rattle.gq_steps.specs.declared.action.Action.TheVariants as act
use Rattle.gq_steps.specs.declared.cut.Cut.TheVariants as cut
use Rattle.gq_steps.specs.declared.group_steps.GroupSteps.{GroupSteps}

abbrev pub no_group : GroupSteps
no_group = record { first = 0; end = 0; flat = false; action = act.Scan 0; cut = cut.Each }

abbrev pub group_at : List GroupSteps → ℕ → GroupSteps
group_at ss i = slice_index_or ss i no_group

-- the steps of a group
abbrev pub group_in : List Step → GroupSteps → Group
group_in steps s = record { binds = slice_index_or steps s.first (Keep 0); checks = take (s.end - (s.first + 1)) (drop (s.first + 1) steps) }

abbrev pub groups_in : Run → List GroupSteps → List Group
groups_in c ss = map (group_in c.steps) ss

-- the groups are the steps from one on, one group after another
abbrev pub Tiles : Run → ℕ → List GroupSteps → Type 0
Tiles c from [] = from ≡ length c.steps
Tiles c from (s ∷ ss) = (s.first ≡ from) × (s.first < s.end) × (s.end ≤ length c.steps) × Tiles c s.end ss
