-- What becomes of the assignments that a pipeline owes: the outcomes of their rows, those that are admitted, behind the optional clauses
-- or continued by the trails.
use Rattle.std.specs.Prelude.{ℕ, Some, Result, List, [], flat_map, map, if◌then◌else◌}
use Rattle.gq_base.specs.Plain.{Graph}
use Rattle.gq_expr.specs.Reading as reading
use Rattle.gq_expr.specs.declared.Fault.{Fault}
use Rattle.gq_kept.specs.Tables.{Table}
use Rattle.gq_law_trails.specs.Trails.{Trailing}
use Rattle.gq_pipe.specs.Rest.{Rest}
use Rattle.gq_plan.specs.Assignments.{Assignment}
use Rattle.gq_plan.specs.Marked.{Marked, ending, marked}
use Rattle.gq_plan.specs.Meaning.{row, whole}
use Rattle.gq_plan.specs.Outcomes.{Row, late_conjuncts}
use Rattle.gq_plan.specs.declared.Bound.{Bound}
use Rattle.gq_plan.specs.declared.TrailPart.{TrailPart}
use Rattle.gq_plan.specs.declared.Typed.{Typed}
use Rattle.gq_trails.specs.Trekking.{continuations}
use Rattle.gq_outer.specs.Clauses.{after_clauses}
use Rattle.gq_outer.specs.Rows.{Wide}
use Rattle.gq_drain.specs.Testing.{Admission}

-- ---- a row

-- the outcomes of what the optional clauses make of a row, each with its matches; these variables stood before them
abbrev pub outcomes_behind : Graph → Bound → List ℕ → List (List Assignment) → Marked → List (Result Row Fault)
outcomes_behind g b known mss m = map (ending g b) (after_clauses g known b.optionals mss m)

-- what becomes of a row of a query that its conjuncts leave
abbrev pub Later : Type 0
Later = Bound → Marked → List (Result Row Fault)

-- its outcomes behind the optional clauses, where it is admitted
abbrev pub if_admitted_behind : Admission → Graph → List ℕ → List (List Assignment) → Later
if_admitted_behind admitted g known mss b m = if admitted m.row then outcomes_behind g b known mss m else []

-- the outcomes of a row: of the conjuncts only the late ones of the alternative are looked at
abbrev pub outcomes_on : Later → Graph → Bound → Typed → reading.Assignment → List (Result Row Fault)
outcomes_on later g b y row = flat_map (later b) (marked g (late_conjuncts b y) row)

-- ---- an assignment

-- the outcomes of an assignment of an alternative
abbrev pub Becomes : Type 0
Becomes = Graph → Bound → Typed → Assignment → List (Result Row Fault)

-- the rows of what trails reach
abbrev pub reached_in : List Trailing → List reading.Assignment
reached_in ms = map (λ (m : Trailing). row m.row) ms

-- an assignment as a row of its variables alone
abbrev pub wide_of : Assignment → Wide
wide_of t = record { nodes = map Some t.nodes; rels = map Some t.rels }

-- the rows by which trails continue it
abbrev pub rows_by : Graph → List TrailPart → Typed → Assignment → List reading.Assignment
rows_by g parts y t = reached_in (continuations g parts y.rels (wide_of t))

-- the outcomes of these rows, which without trails are its own row
abbrev pub given_on : Later → Becomes
given_on later g b y t = flat_map (outcomes_on later g b y) (rows_by g b.trails y t)

-- ---- a pipeline

-- the outcomes of assignments
abbrev pub outcomes_by : Becomes → Graph → Bound → Typed → List Assignment → List (Result Row Fault)
outcomes_by becomes g b y ts = flat_map (becomes g b y) ts

-- the assignments that a pipeline of an alternative owes
abbrev pub owed_by : Typed → Rest → List Assignment
owed_by y pipeline = map (whole y) pipeline.owed

-- the outcomes of what a pipeline owes
abbrev pub owed_outcomes : Becomes → Graph → Table → Rest → List (Result Row Fault)
owed_outcomes becomes g table pipeline =
    let y = pipeline.source.typed in
    outcomes_by becomes g table.bound y (owed_by y pipeline)
