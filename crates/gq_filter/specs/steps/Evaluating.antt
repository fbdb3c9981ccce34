-- What evaluates a condition that nothing else decides, and what it then says of a row.
use Rattle.std.specs.Prelude.{◌≡◌, Bool, [], Option, Some, None}
use Rattle.gq_base.specs.Plain.{Graph}
use Rattle.gq_eval.specs.Asked.{Asked, asked}
use Rattle.gq_expr.specs.Reading.{Assignment}
use Rattle.gq_plan.specs.Conditions.{passes}
use Rattle.gq_plan.specs.declared.bound.NamedExpr.{NamedExpr}
use Rattle.gq_filter.specs.declared.lane_test.LaneTest.{LaneTest}
use Rattle.gq_filter.specs.declared.text_test.PartTest.{PartTest}

-- where there is neither a test of lanes nor one of a text, it is evaluated over the graph
abbrev pub Evaluates : Graph → NamedExpr → Option LaneTest → Option PartTest → Option Asked → Type 0
Evaluates g condition None None evaluator = evaluator ≡ Some (asked condition.expr g)
Evaluates g condition test text evaluator = Unit {0}

-- a condition over a graph, whatever it is called, is true of a row
abbrev pub is_true : Asked → Assignment → Bool
is_true a row = passes a.graph row (record { name = []; expr = a.expr })
