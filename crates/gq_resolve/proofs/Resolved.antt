-- What a fold over a tree gives, with the tree opened by one level; so the equation of `resolved`.
use Rattle.std.proofs.Common.{◌≡◌, ◌∙◌, ap, refl, List, [], ◌∷◌, map, Option}
use Rattle.gq_base.proofs.ListLaws.{prepend-first}
use Rattle.gq_expr.specs.declared.Expr.{Expr}
use Rattle.gq_ast.specs.declared.Ast.{Ast, out-Ast, fold_out-Ast}
use Rattle.gq_ast.specs.declared.expression.Ast.TheShapes.{former-Ast-node as parts}
use Rattle.gq_ast.specs.declared.AstNode.{AstNode}
use Rattle.gq_ast.specs.declared.AstNode.TheVariants as ast
use Rattle.gq_ast.specs.declared.Tester.{Tester as Tested}
use Rattle.gq_ast.specs.declared.Tester.TheVariants as tested
use Rattle.gq_resolve.specs.Resolving.{Calls, resolved, resolve_step}
use Rattle.gq_resolve.specs.steps.Trees.{term_with, tester_with}
use Rattle.gq_scopes.specs.Scopes.{Scope}

abbrev pub tests_of : {A : Type 0} → AstNode A → List (Tested A)
tests_of (ast.Test t ts) = ts
tests_of node = []

-- one level of a tree, with an answer in the place of each operand
abbrev pub answered : {A : Type 0} → (Ast → A) → AstNode Ast → AstNode A
answered go (ast.Literal l) = ast.Literal l
answered go (ast.Variable name) = ast.Variable name
answered go (ast.Property name key) = ast.Property name key
answered go (ast.Call name ts) = ast.Call name (map go ts)
answered go (ast.Exists path) = ast.Exists path
answered go (ast.Paren t) = ast.Paren (go t)
answered go (ast.Negate t) = ast.Negate (go t)
answered go (ast.Plus t) = ast.Plus (go t)
answered go (ast.Not t) = ast.Not (go t)
answered go (ast.Or ts) = ast.Or (map go ts)
answered go (ast.Xor ts) = ast.Xor (map go ts)
answered go (ast.And ts) = ast.And (map go ts)
answered go (ast.Compare t ts) = ast.Compare (go t) (map (term_with go) ts)
answered go (ast.Test t ts) = ast.Test (go t) (map (tester_with go) ts)
answered go (ast.Sum t ts) = ast.Sum (go t) (map (term_with go) ts)
answered go (ast.Product t ts) = ast.Product (go t) (map (term_with go) ts)

module _ (A : Type 0) (go : Ast → A) where
  testers_map : (t : Ast) (ts : List (Tested Ast)) → tests_of (parts.map Ast A go (ast.Test t ts)) ≡ map (tester_with go) ts
  testers_map t [] = refl
  testers_map t (tested.IsNull ∷ ts) = ap (λ r. tested.IsNull ∷ r) (testers_map t ts)
  testers_map t (tested.IsNotNull ∷ ts) = ap (λ r. tested.IsNotNull ∷ r) (testers_map t ts)
  testers_map t (tested.Member ls ∷ ts) = ap (λ r. tested.Member ls ∷ r) (testers_map t ts)
  testers_map t (tested.Text test e ∷ ts) = ap (λ r. tested.Text test (go e) ∷ r) (testers_map t ts)

  -- it is what the tree's own map makes of the level
  pub opens : (n : AstNode Ast) → parts.map Ast A go n ≡ answered go n
  opens (ast.Test t ts) = ap (ast.Test (go t)) (testers_map t ts)
  opens n = refl

pub resolved_out : (calls : Calls) (s : Scope) (t : Ast) → resolved calls s t ≡ resolve_step calls s (answered (resolved calls s) (out-Ast t).node)
unfolding resolved
resolved_out calls s t =
    fold_out-Ast (Option Expr) (λ a. resolve_step calls s a.node) t
    ∙ ap (resolve_step calls s) (opens (Option Expr) (resolved calls s) (out-Ast t).node)

pub ruleset gathering = prepend-first
