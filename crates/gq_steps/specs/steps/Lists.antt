-- The groups of a plan over a stored graph: their layout, and when rows and load numbers stand at the numbers of the first groups.
use Rattle.std.specs.Prelude.{◌≡◌, ◌∷◌, ℕ, ◌+◌, ◌-◌, ◌<◌, Bool, true, List, [], length, take}
use Rattle.gq_plan.specs.Known.{Known, none}
use Rattle.gq_plan.specs.Meaning.{Partial, nothing, look}
use Rattle.gq_plan.specs.declared.assignment.Assignment.{Assignment}
use Rattle.gq_search.specs.Layouts.{Layout}
use Rattle.gq_law_groups.specs.Groups.{passes}
use Rattle.gq_law_groups.specs.Layout.{layout_of, with_group, known_with, AreFlatEnough}
use Rattle.gq_law_groups.specs.Order.{AreCut}
use Rattle.gq_steps.specs.Actions.{action_of}
use Rattle.gq_steps.specs.Levels.{Run, step_at, built_at, known, before}
use Rattle.gq_steps.specs.Moves.{IsRun, IsHeld}
use Rattle.gq_steps.specs.Tests.{IsCut}
use Rattle.gq_steps.specs.declared.group_steps.GroupSteps.{GroupSteps}
use Rattle.gq_steps.specs.Groups.{group_at, group_in, groups_in, Tiles}

abbrev pub flat_in : List GroupSteps → ℕ → Bool
flat_in ss i = (group_at ss i).flat

-- the rows of the build of each group, if it joins
abbrev pub rows_in : Run → List GroupSteps → ℕ → List Partial
rows_in c ss i = built_at c (group_at ss i).first

abbrev pub layout_in : Run → List GroupSteps → Layout
layout_in c ss = layout_of c.graph c.typed (rows_in c ss) (flat_in ss) (groups_in c ss)

-- the groups are the steps of the plan, each begins with the step that makes it and is told what that does and how its places are found, and enough of
-- them are flat
pub record IsGrouped (c : Run) (ss : List GroupSteps) : Type 0 where
  pub tiles : Tiles c 0 ss
  pub cut : AreCut (groups_in c ss)
  pub enough : AreFlatEnough c.graph.catalog c.typed (flat_in ss) 0 (groups_in c ss) none
  pub actions : (i : ℕ) → i < length ss → (group_at ss i).action ≡ action_of (step_at c (group_at ss i).first)
  pub cuts : (i : ℕ) → i < length ss → IsCut c (group_at ss i).first (group_at ss i).end (group_at ss i).cut

-- what is known is bound alike
pub record AreBound (k : Known) (a b : Partial) : Type 0 where
  pub nodes : (v : ℕ) → k.nodes v ≡ true → look a.nodes v ≡ look b.nodes v
  pub rels : (x : ℕ) → k.rels x ≡ true → look a.rels x ≡ look b.rels x

-- before a step, rows and load numbers are those of what the steps before it bind, which agrees with what flat groups bind
pub record IsAtStep (c : Run) (row : Assignment) (d : ℕ) (k : Known) (a : Partial) : Type 0 where
  pub held : IsHeld c row (known c d)
  pub bound : AreBound k a (before c row d)

-- the groups from the i-th on, which begin at a step, stand at these numbers
unfoldable pub Chain : Run → (ℕ → List Partial) → (ℕ → Bool) → Assignment → ℕ → ℕ → List GroupSteps → Known → Partial → List ℕ → Type 0
Chain c rows flat row i d ss k a [] = IsAtStep c row d k a
Chain c rows flat row i d [] k a (n ∷ pre) = ⊥
Chain c rows flat row i d (s ∷ ss) k a (n ∷ pre) =
    IsAtStep c row d k a
    × Chain c rows flat row (i + 1) s.end ss (known_with (flat i) (group_in c.steps s) k) (with_group c.graph c.typed rows flat i (group_in c.steps s) a n) pre

-- the first groups stand at these numbers
pub record Stands (c : Run) (ss : List GroupSteps) (row : Assignment) (pre : List ℕ) : Type 0 where
  pub runs : IsRun c
  pub grouped : IsGrouped c ss
  pub chain : Chain c (rows_in c ss) (flat_in ss) row 0 0 ss none nothing pre

-- the groups but the last one stand at the first of these numbers: nothing reads by a place of the last one
abbrev pub EarlierStand : Run → List GroupSteps → Assignment → List ℕ → Type 0
EarlierStand c ss row pre = Stands c ss row (take (length ss - 1) pre)

-- each place of a group's list is kept
abbrev pub IsUntested : Run → GroupSteps → Type 0
IsUntested c s = (e : Partial) → passes c.graph c.typed (group_in c.steps s) e ≡ true
