-- The optional clauses of a query as they are held, and walks over the rows that they make of a row.
use Rattle.std.specs.Prelude.{◌-◌, ℕ, Bool, Option, List, drop, length}
use Rattle.std.specs.List.{range_with_len}
use Rattle.gq_base.specs.Plain.{Graph}
use Rattle.gq_expr.specs.declared.Fault.{Fault}
use Rattle.gq_homes.specs.declared.spent.Spent.{Spent}
use Rattle.gq_plan.specs.Assignments.{Assignment}
use Rattle.gq_plan.specs.Marked.{Marked}
use Rattle.gq_plan.specs.declared.bound.OptionalPart.{OptionalPart}
use Rattle.gq_outer.specs.Clauses.{after_clauses, unmarked}
use Rattle.gq_outer.specs.Rows.{Wide, read}
use Rattle.gq_optional.specs.declared.optionals.RowShape.{RowShape}

-- the clauses, over a graph and for rows of this shape, and the matches that are listed of each
pub record Held : Type 0 where
  pub graph : Graph
  pub shape : RowShape
  pub parts : List OptionalPart
  pub lists : List (List Assignment)

-- and what the pipelines spent that listed them
pub record Holding : Type 0 where
  pub held : Held
  pub spent : List Spent

-- the node variables that stand before all clauses
abbrev pub first_known : Held → List ℕ
first_known h = range_with_len 0 h.shape.first

-- the rows that the clauses make of a row which no fault marks
abbrev pub rows_behind : Held → Wide → List Marked
rows_behind h base = after_clauses h.graph (first_known h) h.parts h.lists (unmarked (read base))

-- a walk over the rows that clauses make of a row: that row, how many are still owed, the one that was reached last with the fault
-- that marks it, and whether it stands
pub record Walking : Type 0 where
  pub held : Held
  pub base : Wide
  pub left : ℕ
  pub row : Wide
  pub mark : Option Fault
  pub standing : Bool

-- so many of some rows, the last ones
abbrev pub last_rows : ℕ → List Marked → List Marked
last_rows n ms = drop (length ms - n) ms

-- the rows that a walk owes, and the one that it reached last
abbrev pub rows_owed : Walking → List Marked
rows_owed w = last_rows w.left (rows_behind w.held w.base)

abbrev pub row_reached : Walking → Marked
row_reached w = record { row = read w.row; mark = w.mark }
