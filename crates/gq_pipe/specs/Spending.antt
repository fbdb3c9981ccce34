-- What the pipelines of a plan spend (PVLDB 14(11), list groups).
use Rattle.std.specs.Prelude.{◌≡◌, ◌≤◌, ◌^◌, ◌-◌, ℕ, min, filter, List, [], ◌∷◌, ◌++◌, length}
use Rattle.gq_base.specs.Plain.{Graph}
use Rattle.gq_law_groups.specs.Groups.{makes_group}
use Rattle.gq_plan.specs.Columns.{columns_of, steps_of}
use Rattle.gq_plan.specs.Meaning.{Partial, meaning}
use Rattle.gq_plan.specs.Plans.{Plan, Done, Then, Step, Scan, Extend, Close, Join, Keep, Differ, NoLoop, Single, Meet}
use Rattle.gq_plan.specs.declared.typed.Typed.{Typed}
use Rattle.gq_pipe.specs.Keys.{AreRows, key_count}
use Rattle.gq_homes.specs.declared.spent.Spent.{Spent}

-- a count that stands still at the greatest of its type
abbrev pub up_to_most : ℕ → ℕ
up_to_most n = min n (2 ^ 64 - 1)

-- what the pipeline of a plan spends: its columns; no more chunks than the plan has assignments, and none only where it has none
pub record HasSpent (g : Graph) (y : Typed) (p : Plan) (s : Spent) : Type 0 where
  pub columns : s.columns ≡ columns_of y p
  pub most : s.chunks ≤ length (meaning g y p)
  pub none : s.chunks ≡ 0 → meaning g y p ≡ []

-- a plan whose assignments are all handed out has a chunk for each of their different keys
pub record HasOneEach (g : Graph) (y : Typed) (p : Plan) (s : Spent) : Type 0 where
  pub rows : ℕ → List Partial
  pub are : AreRows g y rows 0 (filter makes_group (steps_of p))
  pub chunks : s.chunks ≡ up_to_most (key_count g y rows p)

-- what the pipeline of a side plan spends
pub record HasSpentAll (g : Graph) (y : Typed) (p : Plan) (s : Spent) : Type 0 where
  pub spent : HasSpent g y p s
  pub one_each : HasOneEach g y p s

unfoldable mutual
  -- the side plans whose builds a plan reads, each behind those of its own
  pub runs_of : Plan → List Plan
  runs_of Done = []
  runs_of (Then s p) = step_runs s ++ runs_of p

  pub step_runs : Step → List Plan
  step_runs (Scan v) = []
  step_runs (Extend column x from to direction) = []
  step_runs (Close column x from to direction) = []
  step_runs (Join side keys) = runs_of side ++ side ∷ []
  step_runs (Keep i) = []
  step_runs (Differ p) = []
  step_runs (NoLoop x) = []
  step_runs (Single x from to direction) = []
  step_runs (Meet x from to direction) = []
