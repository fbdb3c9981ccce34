-- What a bound query makes of an assignment: nothing, where a conjunct drops it, else its first fault in text order, else its
-- row (openCypher 9; faults, and which fault is answered, are this project's profile).
use Rattle.std.specs.Prelude.{Bool, true, false, not, Option, Some, None, Result, Ok, Err, List, [], ◌∷◌, map, flat_map, slice_get, if◌then◌else◌}
use Rattle.std.specs.List.{list_any}
use Rattle.gq_base.specs.Plain.{Graph}
use Rattle.gq_base.specs.Values.{Val, null, flag}
use Rattle.gq_expr.specs.Meaning.{meaning}
use Rattle.gq_expr.specs.Operators.{Outcome}
use Rattle.gq_expr.specs.Reading as reading
use Rattle.gq_expr.specs.declared.Fault.{Fault}
use Rattle.gq_expr.specs.declared.Fault.TheVariants.{Kind}
use Rattle.gq_plan.specs.Assignments.{Assignment, row_of}
use Rattle.gq_plan.specs.Meaning.{found}
use Rattle.gq_plan.specs.declared.bound.Bound.{Bound}
use Rattle.gq_plan.specs.declared.bound.NamedExpr.{NamedExpr}
use Rattle.gq_plan.specs.declared.bound.SortExpr.{SortExpr}
use Rattle.gq_plan.specs.declared.typed.Typed.{Typed}

-- the values of a query's columns, and those of its keys
pub record Row : Type 0 where
  pub columns : List Val
  pub keys : List Val

-- a conjunct drops an assignment where it is false or null
abbrev pub drops : Outcome → Bool
drops (Ok null) = true
drops (Ok (flag b)) = not b
drops o = false

-- a conjunct that faults, or that is neither boolean nor null, stands before all that comes later in the text
abbrev pub behind_condition : {A : Type 0} → Outcome → Result A Fault → Result A Fault
behind_condition (Ok null) later = later
behind_condition (Ok (flag b)) later = later
behind_condition (Ok v) later = Err Kind
behind_condition (Err e) later = Err e

abbrev pub behind_conditions : {A : Type 0} → List Outcome → Result A Fault → Result A Fault
behind_conditions [] later = later
behind_conditions (o ∷ os) later = behind_condition o (behind_conditions os later)

-- a fault is the answer, a value goes on
abbrev pub then_with : {A B : Type 0} → Result A Fault → (A → Result B Fault) → Result B Fault
then_with (Ok a) go = go a
then_with (Err e) go = Err e

-- the values of expressions, or the first fault
abbrev pub values : List Outcome → Result (List Val) Fault
values [] = Ok []
values (o ∷ os) = then_with o (λ v. then_with (values os) (λ vs. Ok (v ∷ vs)))

-- the row, or the first fault among columns and keys
abbrev pub row_with : List Outcome → List Outcome → Result Row Fault
row_with columns keys = then_with (values columns) (λ vs. then_with (values keys) (λ ks. Ok (record { columns = vs; keys = ks })))

-- what all conjuncts, columns and keys together say
abbrev pub judged : List Outcome → List Outcome → List Outcome → Option (Result Row Fault)
judged conjuncts columns keys = if list_any drops conjuncts then None else Some (behind_conditions conjuncts (row_with columns keys))

-- what expressions mean for a row of nodes and relationships
abbrev pub meanings_of : Graph → reading.Assignment → List NamedExpr → List Outcome
meanings_of g row es = map (λ e. meaning g row e.expr) es

abbrev pub key_meanings : Graph → reading.Assignment → List SortExpr → List Outcome
key_meanings g row ks = map (λ k. meaning g row k.expr) ks

-- the outcome of a row, by some conjuncts
unfoldable pub outcome_by : Graph → Bound → List NamedExpr → reading.Assignment → Option (Result Row Fault)
outcome_by g bound conjuncts row = judged (meanings_of g row conjuncts) (meanings_of g row bound.columns) (key_meanings g row bound.keys)

-- the outcome of a row, where it is not dropped
abbrev pub outcome : Graph → Bound → reading.Assignment → Option (Result Row Fault)
outcome g bound row = outcome_by g bound bound.conjuncts row

-- the outcomes of assignments, without those that are dropped
abbrev pub outcomes : Graph → Bound → List Assignment → List (Result Row Fault)
outcomes g bound ts = flat_map (λ t. found (outcome g bound (row_of t))) ts

-- the conjuncts that an alternative leaves until nothing else drops a row
abbrev pub late_conjuncts : Bound → Typed → List NamedExpr
late_conjuncts bound y = flat_map (λ i. found (slice_get bound.conjuncts i)) y.late

-- the outcomes of assignments that make the alternative's tests true: of the conjuncts only the late ones are looked at
abbrev pub late_outcomes : Graph → Bound → Typed → List Assignment → List (Result Row Fault)
late_outcomes g bound y ts = flat_map (λ t. found (outcome_by g bound (late_conjuncts bound y) (row_of t))) ts
