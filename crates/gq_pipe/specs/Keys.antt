-- The key of an assignment of a pipeline's plan: its places in the whole lists of the plan's groups.
use Rattle.std.specs.Prelude.{ℕ, ◌+◌, Option, None, List, [], ◌∷◌, map, slice_index_or, if◌then◌else◌}
use Rattle.std.specs.Set.{distinct_count}
use Rattle.gq_arrange.specs.Keys.{plan_key}
use Rattle.gq_base.specs.Plain.{Graph}
use Rattle.gq_join.specs.Kept.{Held}
use Rattle.gq_law_groups.specs.Groups.{HasRows, makes_group}
use Rattle.gq_plan.specs.Columns.{steps_of}
use Rattle.gq_plan.specs.Meaning.{Partial, nothing, mean}
use Rattle.gq_plan.specs.Plans.{Plan, Step, Keep}
use Rattle.gq_plan.specs.declared.typed.Typed.{Typed}
use Rattle.gq_search.specs.Different.{same_key}
use Rattle.gq_pipe.specs.Progress.{Source, plan_in}
use Rattle.gq_steps.specs.Levels.{built_of}

-- a step that makes a group, with its build if it joins
pub record Maker : Type 0 where
  pub step : Step
  pub build : Option Held

abbrev pub no_maker : Maker
no_maker = record { step = Keep 0; build = None }

-- those among steps, with the builds of the steps
abbrev pub makers_of : List Step → List (Option Held) → List Maker
makers_of [] os = []
makers_of (s ∷ ss) [] = []
makers_of (s ∷ ss) (o ∷ os) = if makes_group s then record { step = s; build = o } ∷ makers_of ss os else makers_of ss os

abbrev pub maker_at : List Maker → ℕ → Maker
maker_at ms i = slice_index_or ms i no_maker

-- the rows of the build of each group, if it joins
abbrev pub build_rows : Typed → List Maker → ℕ → List Partial
build_rows y ms i = built_of y (maker_at ms i).step (maker_at ms i).build

-- those of the groups of a plan, with the builds of its steps
abbrev pub rows_of : Typed → Plan → List (Option Held) → ℕ → List Partial
rows_of y p os = build_rows y (makers_of (steps_of p) os)

-- what makes the groups of the plan that a pipeline runs, with the builds that it was lent
abbrev pub makers_in : Source → List Maker
makers_in s = makers_of (steps_of (plan_in s)) s.builds

-- the key of an assignment of that plan
abbrev pub assignment_key : Source → Partial → List ℕ
assignment_key s = plan_key s.graph s.typed (build_rows s.typed (makers_in s)) (plan_in s)

-- the rows of the builds of the groups that steps make, from one on: each join's stand for what its side plan means, in some order
abbrev pub AreRows : Graph → Typed → (ℕ → List Partial) → ℕ → List Step → Type 0
AreRows g y rows i [] = Unit {0}
AreRows g y rows i (s ∷ ss) = HasRows g y (rows i) s × AreRows g y rows (i + 1) ss

-- how many different keys there are of what a plan means, by the rows of the builds of its groups
abbrev pub key_count : Graph → Typed → (ℕ → List Partial) → Plan → ℕ
key_count g y rows p = distinct_count same_key (map (plan_key g y rows p) (mean g y p nothing))
