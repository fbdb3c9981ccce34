-- The conjuncts that cannot fault, by the kinds of variables.
use Rattle.std.proofs.Common.{not, List, filter}
use Rattle.gq_expr.specs.Kinds.{can_fault}
use Rattle.gq_expr.specs.declared.Kinds.{Kinds}
use Rattle.gq_plan.specs.declared.NamedExpr.{NamedExpr}

abbrev pub early : Kinds → List NamedExpr → List NamedExpr
early kinds cs = filter (λ e. not (can_fault kinds e.expr)) cs
