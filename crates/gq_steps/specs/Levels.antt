-- The steps of a plan over a stored graph: what is bound before each, and the rows of its build.
use Rattle.std.specs.Prelude.{ℕ, zero, suc, Option, Some, None, List, [], map, length, slice_index_or}
use Rattle.std.specs.List.{range_with_len}
use Rattle.gq_base.specs.Plain.{Graph}
use Rattle.gq_filter.specs.RowTests.{RowCondition}
use Rattle.gq_plan.specs.Covers.{after_step}
use Rattle.gq_plan.specs.Known.{Known, none}
use Rattle.gq_plan.specs.Meaning.{Partial, nothing, with_node, with_rel, with_all}
use Rattle.gq_plan.specs.Plans.{Step, Scan, Extend, Close, Join, Keep, Differ, NoLoop, Single, Meet}
use Rattle.gq_plan.specs.declared.typed.Typed.{Typed}
use Rattle.gq_join.specs.Kept.{Held}
use Rattle.gq_plan.specs.Rows.{node_at, rel_at}
use Rattle.gq_steps.specs.Built.{whole_row}
use Rattle.gq_steps.specs.Given.{given}
use Rattle.gq_plan.specs.declared.assignment.Assignment.{Assignment}

-- a graph, an alternative, the steps of a plan, for each the build, if it is a join, and what the alternative asks of its rows
pub record Run : Type 0 where
  pub graph : Graph
  pub typed : Typed
  pub steps : List Step
  pub builds : List (Option Held)
  pub tests : List RowCondition

-- the step at a depth
abbrev pub step_at : Run → ℕ → Step
step_at c d = slice_index_or c.steps d (Keep 0)

-- the assignment with what a step binds, as rows and load numbers have it
abbrev pub taken : Typed → Assignment → Step → Partial → Partial
taken y row (Scan v) a = with_node v (node_at y row v) a
taken y row (Extend column x from to direction) a =
    with_node to (node_at y row to) (with_rel x (rel_at y row x) a)
taken y row (Close column x from to direction) a = with_rel x (rel_at y row x) a
taken y row (Join side keys) a = with_all (given y row side nothing) a
taken y row (Keep i) a = a
taken y row (Differ p) a = a
taken y row (NoLoop x) a = a
taken y row (Single x from to direction) a = with_rel x (rel_at y row x) a
taken y row (Meet x from to direction) a = a

-- what is bound before the step at a depth
unfoldable pub known : Run → ℕ → Known
known c zero = none
known c (suc d) = after_step (step_at c d) (known c d)

-- the partial assignment there
unfoldable pub before : Run → Assignment → ℕ → Partial
before c row zero = nothing
before c row (suc d) = taken c.typed row (step_at c d) (before c row d)

-- the rows of a step's build, as what they stand for
abbrev pub built_of : Typed → Step → Option Held → List Partial
built_of y (Join side keys) (Some h) = map (λ i. given y (whole_row y h i) side nothing) (range_with_len 0 (length h.rows))
built_of y s o = []

abbrev pub built_at : Run → ℕ → List Partial
built_at c d = built_of c.typed (step_at c d) (slice_index_or c.builds d None)
