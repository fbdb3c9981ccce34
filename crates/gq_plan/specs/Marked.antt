-- What conjuncts leave of a row (openCypher 9; faults, and which fault is answered, are this project's profile): nothing, or the
-- row, which the first fault marks; and what is made of the rows that are left.
use Rattle.std.specs.Prelude.{Option, Some, None, Result, Ok, Err, List, [], ◌∷◌, map, flat_map, if◌then◌else◌}
use Rattle.std.specs.List.{list_any}
use Rattle.gq_base.specs.Plain.{Graph}
use Rattle.gq_expr.specs.Operators.{Outcome}
use Rattle.gq_expr.specs.Reading as reading
use Rattle.gq_expr.specs.declared.Fault.{Fault}
use Rattle.gq_plan.specs.Assignments.{Assignment, row_of}
use Rattle.gq_plan.specs.Outcomes.{Row, drops, behind_conditions, row_with, meanings_of, key_meanings}
use Rattle.gq_plan.specs.declared.bound.Bound.{Bound}
use Rattle.gq_plan.specs.declared.bound.NamedExpr.{NamedExpr}

-- a row and the fault that marks it, if one does
pub record Marked : Type 0 where
  pub row : reading.Assignment
  pub mark : Option Fault

-- ---- conjuncts

abbrev pub fault_in : {A : Type 0} → Result A Fault → Option Fault
fault_in (Ok a) = None
fault_in (Err f) = Some f

abbrev pub no_fault : Result (Unit {0}) Fault
no_fault = Ok tt

-- what conjuncts say of a row: it is left out where one of them is false or null; else their first fault marks it
abbrev pub marks : List Outcome → List (Option Fault)
marks os = if list_any drops os then [] else fault_in (behind_conditions os no_fault) ∷ []

unfoldable pub marked : Graph → List NamedExpr → reading.Assignment → List Marked
marked g conjuncts row = map (λ m. record { row = row; mark = m }) (marks (meanings_of g row conjuncts))

-- ---- outcomes

abbrev pub ended : {A : Type 0} → Option Fault → Result A Fault → Result A Fault
ended None later = later
ended (Some f) later = Err f

-- the outcome of a row: the fault that marks it, else the first fault of its columns and keys, else their values
unfoldable pub ending : Graph → Bound → Marked → Result Row Fault
ending g bound m = ended m.mark (row_with (meanings_of g m.row bound.columns) (key_meanings g m.row bound.keys))

-- what is made of the rows of assignments that their conjuncts do not leave out
abbrev pub made_of : Graph → List NamedExpr → (Marked → List (Result Row Fault)) → List Assignment → List (Result Row Fault)
made_of g conjuncts later ts = flat_map (λ t. flat_map later (marked g conjuncts (row_of t))) ts
