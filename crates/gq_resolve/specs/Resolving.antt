-- The expressions that trees stand for once their names are resolved (openCypher 9; the functions are those of this
-- project's profile).
use Rattle.std.specs.Prelude.{ℕ, Bool, true, Option, Some, None, List, [], ◌∷◌, map, flat_map, codes, if◌then◌else◌}
use Rattle.std.specs.Option.{option_and_then, option_map}
use Rattle.std.specs.Str.{str_eq_ignore_ascii_case, str_to_ascii_lowercase}
use Rattle.gq_base.specs.Lists.{each}
use Rattle.gq_base.specs.declared.Literal.TheVariants as literal
use Rattle.gq_expr.specs.declared.Operand.{Operand}
use Rattle.gq_expr.specs.declared.Expr.{Expr}
use Rattle.gq_expr.specs.declared.Expr.TheVariants as expr
use Rattle.gq_expr.specs.declared.Tester.{Tester}
use Rattle.gq_expr.specs.declared.Tester.TheVariants as tester
use Rattle.gq_ast.specs.declared.Span.{Span}
use Rattle.gq_ast.specs.declared.Ast.{Ast, fold-Ast}
use Rattle.gq_ast.specs.declared.expression.Ast.TheShapes.{former-Ast-node as parts}
use Rattle.gq_ast.specs.declared.AstNode.{AstNode}
use Rattle.gq_ast.specs.declared.AstNode.TheVariants as ast
use Rattle.gq_ast.specs.declared.Term.{Term}
use Rattle.gq_ast.specs.declared.Tester.{Tester as Tested}
use Rattle.gq_ast.specs.declared.Tester.TheVariants as tested
use Rattle.gq_scopes.specs.Patterns.{Name}
use Rattle.gq_resolve.specs.declared.calls.CallForm.{CallForm}
use Rattle.gq_resolve.specs.declared.calls.CallForm.TheVariants as form
use Rattle.gq_scopes.specs.Scopes.{Scope, bare, property}
use Rattle.gq_resolve.specs.PathTests.{PathTest, test_step}

-- what a call stands for, by its name and its arguments
abbrev pub Calls : Type 0
Calls = Name → List Expr → Option Expr

abbrev pub is_function : Name → List ℕ → Bool
is_function name word = str_eq_ignore_ascii_case name word

abbrev pub type_call : List Expr → Option Expr
type_call [] = None
type_call (e ∷ []) = Some (expr.TypeName e)
type_call (e ∷ (f ∷ es)) = None

abbrev pub coalesce_call : List Expr → Option Expr
coalesce_call [] = None
coalesce_call (e ∷ es) = Some (expr.Coalesce (e ∷ es))

-- the functions: `type` of one argument, and `coalesce` of one and more, in any ASCII case
abbrev pub functions : Calls
functions name args =
    if is_function name (codes "type") then type_call args else if is_function name (codes "coalesce") then coalesce_call args else None

-- for comparing expressions before their functions are looked at: a call as the list of its name and its arguments
abbrev pub as_lists : Calls
as_lists name args = Some (expr.Coalesce (expr.Literal (literal.Str (str_to_ascii_lowercase name)) ∷ args))

-- what a call stands for in either form
abbrev pub calls_of : CallForm → Calls
calls_of form.Functions = functions
calls_of form.Lists = as_lists

-- all of them, where all are there
abbrev pub all_some : {A : Type 0} → List (Option A) → Option (List A)
all_some xs = each (λ x. x) xs

-- an operator with its operand, where that is known
abbrev pub bound_term : {O : Type 0} → Term O (Option Expr) → Option (Operand O Expr)
bound_term t = option_map (λ e. record { op = t.op; expr = e }) t.tree

abbrev pub bound_tester : Tested (Option Expr) → Option (Tester Expr)
bound_tester tested.IsNull = Some tester.IsNull
bound_tester tested.IsNotNull = Some tester.IsNotNull
bound_tester (tested.Member ls) = Some (tester.Member ls)
bound_tester (tested.Text test e) = option_map (tester.Text test) e

-- a first operand and the further ones
abbrev pub over_known : {T : Type 0} → (Expr → List T → Expr) → Option Expr → Option (List T) → Option Expr
over_known node None ts = None
over_known node (Some e) ts = option_map (node e) ts

abbrev pub over : {T : Type 0} → (Expr → List T → Expr) → Option Expr → List (Option T) → Option Expr
over node e ts = over_known node e (all_some ts)

-- one level of a tree, by what its parts stand for; parentheses leave no trace, and EXISTS, whose value no expression has, stands
-- for true: it reads nothing, and never faults
abbrev pub resolve_step : Calls → Scope → AstNode (Option Expr) → Option Expr
resolve_step calls s (ast.Literal l) = Some (expr.Literal l)
resolve_step calls s (ast.Variable name) = bare s name
resolve_step calls s (ast.Property name key) = property s name key
resolve_step calls s (ast.Call name es) = option_and_then (calls name) (all_some es)
resolve_step calls s (ast.Exists path) = Some (expr.Literal (literal.Flag true))
resolve_step calls s (ast.Paren e) = e
resolve_step calls s (ast.Negate e) = option_map expr.Negate e
resolve_step calls s (ast.Plus e) = option_map expr.Plus e
resolve_step calls s (ast.Not e) = option_map expr.Not e
resolve_step calls s (ast.Or es) = option_map expr.Or (all_some es)
resolve_step calls s (ast.Xor es) = option_map expr.Xor (all_some es)
resolve_step calls s (ast.And es) = option_map expr.And (all_some es)
resolve_step calls s (ast.Compare e ts) = over expr.Compare e (map bound_term ts)
resolve_step calls s (ast.Test e ts) = over expr.Test e (map bound_tester ts)
resolve_step calls s (ast.Sum e ts) = over expr.Arith e (map bound_term ts)
resolve_step calls s (ast.Product e ts) = over expr.Arith e (map bound_term ts)

-- the expression that a tree stands for; none where it names what the scope does not have, or a call is none
unfoldable pub resolved : Calls → Scope → Ast → Option Expr
resolved calls s = fold-Ast (Option Expr) (λ a. resolve_step calls s a.node)

-- a conjunct of a condition, its place in the text, and the test of a path that it is, if it is one
pub record Conjunct : Type 0 where
  pub span : Span
  pub expr : Option Expr
  pub test : Option PathTest

-- what a condition stands for, the test that it is, and its conjuncts
pub record Split : Type 0 where
  pub expr : Option Expr
  pub test : Option PathTest
  pub conjuncts : List Conjunct

abbrev pub split_node : AstNode Split → Conjunct → List Conjunct
split_node (ast.And all) whole = flat_map (λ part. part.conjuncts) all
split_node (ast.Paren inner) whole = inner.conjuncts
split_node node whole = whole ∷ []

-- one level of a condition, by what its parts stand for
abbrev pub split_step : Calls → Scope → AstNode Split → Span → Split
split_step calls s node span =
    let whole : Option Expr = resolve_step calls s (parts.map Split (Option Expr) (λ part. part.expr) node) in
    let test : Option PathTest = test_step (parts.map Split (Option PathTest) (λ part. part.test) node) in
    record { expr = whole; test = test; conjuncts = split_node node (record { span = span; expr = whole; test = test }) }

-- the conjuncts of a condition: those of the members of an AND, those within parentheses, else itself
unfoldable pub split : Calls → Scope → Ast → Split
split calls s = fold-Ast Split (λ a. split_step calls s a.node a.span)
