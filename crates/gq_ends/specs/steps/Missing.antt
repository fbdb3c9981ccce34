-- Tests that compare a property which a table does not have.
use Rattle.std.specs.Prelude.{◌≡◌, ℕ, true, List, ◌∷◌}
use Rattle.gq_base.specs.Plain.{Graph}
use Rattle.gq_base.specs.declared.operator.CompareOp.{CompareOp}
use Rattle.gq_expr.specs.declared.expr.Expr.{Expr}
use Rattle.gq_expr.specs.declared.expr.Expr.TheVariants.{Compare, NodeProperty}
use Rattle.gq_expr.specs.declared.expr.Operand.{Operand}
use Rattle.gq_law_trails.specs.Trails.{fits_end}
use Rattle.gq_plan.specs.Conditions.{passes}
use Rattle.gq_plan.specs.Meaning as meaning
use Rattle.gq_plan.specs.declared.TrailPart.{TrailPart}
use Rattle.gq_plan.specs.declared.bound.NamedExpr.{NamedExpr}

-- an expression compares a property of a node variable with something
pub record Compares (e : Expr) (variable : ℕ) (name : List ℕ) : Type 0 where
  pub term : Operand CompareOp Expr
  pub terms : List (Operand CompareOp Expr)
  pub is : e ≡ Compare (NodeProperty variable name) (term ∷ terms)

-- a test is true of no node of a table; and none is as a trail asks of its other end
abbrev pub NonePasses : Graph → ℕ → ℕ → NamedExpr → Type 0
NonePasses g variable table asked = (row : ℕ) → passes g (meaning.row (meaning.with_node variable (record { table = table; row = row }) meaning.nothing)) asked ≡ true → ⊥

abbrev pub NoneFits : Graph → TrailPart → ℕ → Type 0
NoneFits g p table = (row : ℕ) → fits_end g p (record { table = table; row = row }) ≡ true → ⊥
