-- What it means that a query is sure of the values of its rows.
use Rattle.std.specs.Prelude.{◌≡◌, Some, Ok, List, map, slice_get}
use Rattle.gq_base.specs.Plain.{Graph}
use Rattle.gq_base.specs.Values.{Val}
use Rattle.gq_expr.specs.Meaning.{meaning}
use Rattle.gq_expr.specs.Operators.{Outcome}
use Rattle.gq_expr.specs.Reading as reading
use Rattle.gq_expr.specs.Safety.{HasValue}
use Rattle.gq_plan.specs.declared.bound.Bound.{Bound}
use Rattle.gq_plan.specs.declared.bound.NamedExpr.{NamedExpr}
use Rattle.gq_plan.specs.declared.bound.SortExpr.{SortExpr}
use Rattle.std.specs.List.{AllByRecursion}

-- each column and each key has a value in every graph, under each assignment
abbrev pub HasSureColumn : NamedExpr → Type 0
HasSureColumn e = HasValue e.expr

abbrev pub HasSureKey : SortExpr → Type 0
HasSureKey s = HasValue s.expr

abbrev pub AreSure : Bound → Type 0
AreSure b = AllByRecursion HasSureColumn b.columns × AllByRecursion HasSureKey b.keys

-- the outcomes are these values
abbrev pub AreValues : List Val → List Outcome → Type 0
AreValues vs os = os ≡ map Ok vs

-- the first key of a query has this value in what expressions read
pub record StartsWith (g : Graph) (here : reading.Assignment) (b : Bound) (v : Val) : Type 0 where
  pub sort : SortExpr
  pub first : slice_get b.keys 0 ≡ Some sort
  pub means : meaning g here sort.expr ≡ Ok v
