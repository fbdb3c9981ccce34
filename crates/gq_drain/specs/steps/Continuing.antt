-- The rows by which the trails of a query continue an assignment of an alternative, as they are walked.
use Rattle.std.specs.Prelude.{List, flat_map, map}
use Rattle.gq_base.specs.Plain.{Graph}
use Rattle.gq_expr.specs.Reading as reading
use Rattle.gq_plan.specs.Assignments.{Assignment}
use Rattle.gq_plan.specs.Meaning.{row}
use Rattle.gq_plan.specs.declared.Bound.{Bound}
use Rattle.gq_plan.specs.declared.Typed.{Typed}
use Rattle.gq_trails.specs.Continued.{rows_continued}
use Rattle.gq_drain.specs.Becoming.{Becomes, Later, outcomes_on, wide_of}

-- all of them, or some that stand for them where each counts once
abbrev pub continued_by : Graph → Bound → Typed → Assignment → List reading.Assignment
continued_by g b y t = map row (rows_continued b.distinct g b.trails y.rels (wide_of t))

-- their outcomes
abbrev pub continued_on : Later → Becomes
continued_on later g b y t = flat_map (outcomes_on later g b y) (continued_by g b y t)
