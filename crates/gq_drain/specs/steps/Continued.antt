-- What continues the assignments of an alternative, row by row, and what is left of a row that is judged.
use Rattle.std.specs.Prelude.{◌≡◌, Option, Some, List, filter, map}
use Rattle.gq_base.specs.Plain.{Graph}
use Rattle.gq_eval.specs.Asked.{answers}
use Rattle.gq_expr.specs.Reading as reading
use Rattle.gq_expr.specs.declared.Fault.{Fault}
use Rattle.gq_plan.specs.Assignments.{Assignment}
use Rattle.gq_plan.specs.Marked.{Marked, ending, marks}
use Rattle.gq_plan.specs.declared.Bound.{Bound}
use Rattle.gq_plan.specs.declared.Typed.{Typed}
use Rattle.gq_project.specs.Reading.{at_numbers}
use Rattle.gq_rows.specs.Growing.{IsContinued}
use Rattle.gq_drain.specs.Becoming.{Becomes}
use Rattle.gq_drain.specs.Testing.{admitted_by}
use Rattle.gq_drain.specs.declared.prepared.Prepared.{Prepared}

-- the graph and the alternative, and the rows by which an assignment is continued, each with the fault that marks it
pub record Continuation : Type 0 where
  pub graph : Graph
  pub typed : Typed
  pub rows : Assignment → List Marked

-- the outcomes of such rows
abbrev pub ended_by : (Assignment → List Marked) → Becomes
ended_by rows g b y t = map (ending g b) (rows t)

-- a row with each of these marks
abbrev pub rows_marked : reading.Assignment → List (Option Fault) → List Marked
rows_marked row ms = map (λ m. record { row = row; mark = m }) ms

-- what the conjuncts that an alternative leaves and the tests of paths leave of a row
abbrev pub left_by : Prepared → Typed → reading.Assignment → List Marked
left_by p y row = filter (λ m. admitted_by p.tests.all m.row) (rows_marked row (marks (answers row (at_numbers p.conjuncts y.late))))

-- what goes through the assignments of chunks row by row, for a table that rows may be made for
pub record IsByRows (way : Continuation) (over : Graph) (typed : Typed) (g : Graph) (b : Bound) (o : Option Typed) : Type 0 where
  pub continued : IsContinued b
  pub graph : way.graph ≡ over
  pub typed_is : way.typed ≡ typed
  pub here : over ≡ g
  pub alternative : o ≡ Some typed
