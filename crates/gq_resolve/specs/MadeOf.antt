-- When two expressions are the same, and when an expression is made of columns (this project's profile).
use Rattle.std.specs.Prelude.{ℕ, nat_eq, Bool, true, false, ◌&&◌, ◌||◌, Option, Some, None, List, [], ◌∷◌, flat_map}
use Rattle.std.specs.List.{list_any, list_all}
use Rattle.std.specs.Ordering.{is_eq}
use Rattle.std.specs.Cmp.Lexicographic.{pointwise}
use denote.Enum.Bare.{sameb}
use Rattle.gq_base.specs.Values.{literal_val, order_vals}
use Rattle.gq_base.specs.contracts.operator.TextTest.{the_type}
use Rattle.gq_base.specs.declared.Literal.{Literal}
use Rattle.gq_base.specs.declared.ArithOp.{ArithOp}
use Rattle.gq_base.specs.declared.ArithOp.TheVariants as arith
use Rattle.gq_base.specs.declared.CompareOp.{CompareOp}
use Rattle.gq_base.specs.declared.CompareOp.TheVariants as compare
use Rattle.gq_expr.specs.declared.Operand.{Operand}
use Rattle.gq_expr.specs.declared.Expr.{Expr, Expr-F, out-Expr}
use Rattle.gq_expr.specs.declared.Expr.TheVariants as expr
use Rattle.gq_expr.specs.declared.Tester.{Tester}
use Rattle.gq_expr.specs.declared.Tester.TheVariants as tester
use Rattle.gq_resolve.specs.Operands.{places, walk}
use Rattle.gq_scopes.specs.declared.Column.{Column}

-- literals are the same where their values are, and null is the same as null
abbrev pub same_literal : Literal → Literal → Bool
same_literal l m = is_eq (order_vals (literal_val l) (literal_val m))

abbrev pub same_literals : List Literal → List Literal → Bool
same_literals ls ms = pointwise same_literal ls ms

abbrev pub compare_rank : CompareOp → ℕ
compare_rank compare.Equal = 0
compare_rank compare.NotEqual = 1
compare_rank compare.Less = 2
compare_rank compare.LessEqual = 3
compare_rank compare.Greater = 4
compare_rank compare.GreaterEqual = 5

abbrev pub arith_rank : ArithOp → ℕ
arith_rank arith.Add = 0
arith_rank arith.Subtract = 1
arith_rank arith.Multiply = 2
arith_rank arith.Divide = 3
arith_rank arith.Remainder = 4

abbrev pub same_compare : Operand CompareOp Expr → Operand CompareOp Expr → Bool
same_compare t u = nat_eq (compare_rank t.op) (compare_rank u.op)

abbrev pub same_arith : Operand ArithOp Expr → Operand ArithOp Expr → Bool
same_arith t u = nat_eq (arith_rank t.op) (arith_rank u.op)

-- tests are the same but for their operands
abbrev pub same_test : Tester Expr → Tester Expr → Bool
same_test tester.IsNull tester.IsNull = true
same_test tester.IsNotNull tester.IsNotNull = true
same_test (tester.Member ls) (tester.Member ms) = same_literals ls ms
same_test (tester.Text s d) (tester.Text t e) = sameb the_type s t
same_test t u = false

-- two levels are the same but for their operands
abbrev pub same_head : Expr-F Expr → Expr-F Expr → Bool
same_head (Expr-F.Literal l) (Expr-F.Literal m) = same_literal l m
same_head (Expr-F.Node v) (Expr-F.Node w) = nat_eq v w
same_head (Expr-F.Rel x) (Expr-F.Rel y) = nat_eq x y
same_head (Expr-F.NodeProperty v k) (Expr-F.NodeProperty w l) = nat_eq v w && pointwise nat_eq k l
same_head (Expr-F.RelProperty x k) (Expr-F.RelProperty y l) = nat_eq x y && pointwise nat_eq k l
same_head (Expr-F.TypeName d) (Expr-F.TypeName e) = true
same_head (Expr-F.Coalesce ds) (Expr-F.Coalesce es) = true
same_head (Expr-F.Negate d) (Expr-F.Negate e) = true
same_head (Expr-F.Plus d) (Expr-F.Plus e) = true
same_head (Expr-F.Not d) (Expr-F.Not e) = true
same_head (Expr-F.Or ds) (Expr-F.Or es) = true
same_head (Expr-F.Xor ds) (Expr-F.Xor es) = true
same_head (Expr-F.And ds) (Expr-F.And es) = true
same_head (Expr-F.Compare d ts) (Expr-F.Compare e us) = pointwise same_compare ts us
same_head (Expr-F.Test d ts) (Expr-F.Test e us) = pointwise same_test ts us
same_head (Expr-F.Arith d ts) (Expr-F.Arith e us) = pointwise same_arith ts us
same_head d e = false

-- an operand passes the test at its place, or there is neither
abbrev pub agrees : Option (Expr → Bool) → Option Expr → Bool
agrees None None = true
agrees (Some test) (Some e) = test e
agrees test e = false

abbrev pub same_step : Expr → List (Option (Expr → Bool)) → Expr → Bool
same_step e tests other = same_head (out-Expr e) (out-Expr other) && pointwise agrees tests (places (out-Expr other))

-- two expressions are the same: they are but for their operands, and so are these at each place
unfoldable pub same_expr : Expr → Expr → Bool
same_expr = walk same_step

-- what an expression is besides its operands is made of columns: a literal is, and so are a property of a variable that
-- is a column, and what is no variable and no property
abbrev pub is_made_alone : List Expr → Expr-F Expr → Bool
is_made_alone columns (Expr-F.Node v) = false
is_made_alone columns (Expr-F.Rel x) = false
is_made_alone columns (Expr-F.NodeProperty v k) = list_any (same_expr (expr.Node v)) columns
is_made_alone columns (Expr-F.RelProperty x k) = list_any (same_expr (expr.Rel x)) columns
is_made_alone columns level = true

abbrev pub if_there : Option Bool → Bool
if_there None = true
if_there (Some made) = made

abbrev pub made_step : List Expr → Expr → List (Option Bool) → Bool
made_step columns e parts = list_any (same_expr e) columns || (is_made_alone columns (out-Expr e) && list_all if_there parts)

-- an expression is made of columns: it is one, or it is made of them besides its operands, and each operand is
unfoldable pub is_made_of : List Expr → Expr → Bool
is_made_of columns = walk (made_step columns)

abbrev pub where_known : Option Expr → List Expr
where_known None = []
where_known (Some e) = e ∷ []

-- the expressions of columns, of those that have one
abbrev pub column_exprs : List Column → List Expr
column_exprs cs = flat_map (λ c. where_known c.expr) cs
