-- What a typed alternative asks beside its tables and directions, and which assignments it allows.
use Rattle.std.specs.Prelude.{Bool, false, not, ◌&&◌, Option, Some, None, Ok}
use Rattle.std.specs.List.{list_all}
use Rattle.gq_base.specs.Plain.{Graph}
use Rattle.gq_base.specs.Values.{flag}
use Rattle.gq_base.specs.declared.RelId.{RelId}
use Rattle.gq_expr.specs.Meaning.{meaning}
use Rattle.gq_expr.specs.Operators.{Outcome}
use Rattle.gq_expr.specs.Reading as reading
use Rattle.gq_plan.specs.Allowed.{at_same, lies_in}
use Rattle.gq_plan.specs.Assignments.{Assignment, row_of, same_rel}
use Rattle.gq_plan.specs.declared.bound.NamedExpr.{NamedExpr}
use Rattle.gq_plan.specs.declared.typed.RelPair.{RelPair}
use Rattle.gq_plan.specs.declared.typed.Typed.{Typed}
use Rattle.gq_plan.specs.declared.typed.TypedRel.{TypedRel}

abbrev is_true : Outcome → Bool
is_true (Ok (flag b)) = b
is_true outcome = false

-- a test is true of a row
abbrev pub passes : Graph → reading.Assignment → NamedExpr → Bool
passes g row test = is_true (meaning g row test.expr)

abbrev pub differ : Option RelId → Option RelId → Bool
differ None r = false
differ (Some q) None = false
differ (Some q) (Some r) = not (same_rel q r)

-- the relationships of a pair are different
abbrev pub differs : reading.Assignment → RelPair → Bool
differs row p = differ (row.rels p.first) (row.rels p.second)

-- a relationship does not lead from a node to itself
abbrev pub no_loop : reading.Assignment → TypedRel → Bool
no_loop row r = not (at_same (row.nodes r.source) (row.nodes r.target))

-- an assignment lies in the alternative, and makes all its tests true and all its pairs different
abbrev pub allows : Graph → Typed → Assignment → Bool
allows g y t = lies_in g y t && (list_all (passes g (row_of t)) y.tests && list_all (differs (row_of t)) y.pairs)
