-- The outcomes of a row without optional clauses, and of an assignment without trails.
use Rattle.std.specs.Prelude.{[], ◌∷◌, if◌then◌else◌}
use Rattle.gq_base.specs.Plain.{Graph}
use Rattle.gq_plan.specs.Assignments.{row_of}
use Rattle.gq_plan.specs.Marked.{ending}
use Rattle.gq_drain.specs.Becoming.{Becomes, Later, outcomes_on}
use Rattle.gq_drain.specs.Testing.{Admission}

-- the one outcome of a row, where it is admitted
abbrev pub if_admitted : Admission → Graph → Later
if_admitted admitted g b m = if admitted m.row then ending g b m ∷ [] else []

-- the outcomes of an assignment's own row
abbrev pub given_by : Later → Becomes
given_by later g b y t = outcomes_on later g b y (row_of t)
