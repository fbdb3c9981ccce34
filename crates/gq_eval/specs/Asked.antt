-- An expression over a graph, whose value is asked for in row after row.
use Rattle.std.specs.Prelude.{List, map}
use Rattle.gq_base.specs.Plain.{Graph}
use Rattle.gq_expr.specs.Meaning.{meaning}
use Rattle.gq_expr.specs.Operators.{Outcome}
use Rattle.gq_expr.specs.Reading.{Assignment}
use Rattle.gq_expr.specs.declared.expr.Expr.{Expr}
use Rattle.gq_plan.specs.declared.bound.NamedExpr.{NamedExpr}

-- an expression over a graph
pub record Asked : Type 0 where
  pub expr : Expr
  pub graph : Graph

abbrev pub asked : Expr → Graph → Asked
asked expr graph = record { expr = expr; graph = graph }

-- named expressions over a graph
abbrev pub asked_of : Graph → List NamedExpr → List Asked
asked_of g named = map (λ (e : NamedExpr). asked e.expr g) named

-- what each of them means in a row
abbrev pub answers : Assignment → List Asked → List Outcome
answers row all = map (λ a. meaning a.graph row a.expr) all
