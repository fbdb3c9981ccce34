-- Which relationship variables a plan binds, and the plans whose variables have room among the groups that the program keeps.
use Rattle.std.specs.Prelude.{ℕ, nat_eq, ◌<◌, ◌≡◌, Bool, true, false, if◌then◌else◌}
use Rattle.gq_plan.specs.Columns.{binds}
use Rattle.gq_plan.specs.Plans.{Plan, Done, Then, Step, Scan, Extend, Close, Join, Keep, Differ, NoLoop, Single, Meet}
use Rattle.gq_plan.specs.Soundness.{max_variables}

unfoldable mutual
  -- a plan, or a step, binds a relationship variable
  pub binds_rel : ℕ → Plan → Bool
  binds_rel rel Done = false
  binds_rel rel (Then s p) = if step_binds_rel rel s then true else binds_rel rel p

  pub step_binds_rel : ℕ → Step → Bool
  step_binds_rel rel (Scan node) = false
  step_binds_rel rel (Extend column own from to direction) = nat_eq own rel
  step_binds_rel rel (Close column own from to direction) = nat_eq own rel
  step_binds_rel rel (Join side keys) = binds_rel rel side
  step_binds_rel rel (Keep test) = false
  step_binds_rel rel (Differ pair) = false
  step_binds_rel rel (NoLoop own) = false
  step_binds_rel rel (Single own from to direction) = nat_eq own rel
  step_binds_rel rel (Meet own from to direction) = false

-- what a side plan binds is below the most variables of a query
pub record HasRoom (side : Plan) : Type 0 where
  pub nodes : (v : ℕ) → binds v side ≡ true → v < max_variables
  pub rels : (x : ℕ) → binds_rel x side ≡ true → x < max_variables

-- and so is what a step binds
unfoldable pub IsNamed : Step → Type 0
IsNamed (Scan v) = v < max_variables
IsNamed (Extend column x from to direction) = (x < max_variables) × (to < max_variables)
IsNamed (Close column x from to direction) = x < max_variables
IsNamed (Join side keys) = HasRoom side
IsNamed (Keep i) = Unit {0}
IsNamed (Differ q) = Unit {0}
IsNamed (NoLoop x) = Unit {0}
IsNamed (Single x from to direction) = x < max_variables
IsNamed (Meet x from to direction) = Unit {0}
