-- The equations of `may`, one for each variant.
use Rattle.std.proofs.Common.{◌≡◌, ◌∙◌, ap, sym, ℕ, List, [], ◌∷◌, ◌||◌, map, slice_get}
use Rattle.std.specs.List.{list_any}
use Rattle.gq_base.specs.declared.Literal.{Literal as Spelled}
use Rattle.gq_expr.specs.Kinds.{May, may, may_step, safe, node, relationship, literal_kinds, kinds_at, field_kind, type_may, all_of, arithmetic, truth, misfits, term_faults, test_may}
use Rattle.gq_expr.specs.steps.Parts.{operand_with, tester_with}
use Rattle.gq_base.specs.declared.operator.ArithOp.{ArithOp}
use Rattle.gq_expr.specs.declared.expr.Operand.{Operand}
use Rattle.gq_base.specs.declared.operator.CompareOp.{CompareOp}
use Rattle.gq_expr.specs.declared.expr.Expr.{Expr, Expr-F, out-Expr, map-Expr, fold_out-Expr}
use Rattle.gq_expr.specs.declared.expr.Expr.TheVariants.{Literal, Node, Rel, NodeProperty, RelProperty, TypeName, Coalesce, Negate, Plus, Not, Or, Xor, And, Compare, Test, Arith, outs-Literal, outs-Node, outs-Rel, outs-NodeProperty, outs-RelProperty, outs-TypeName, outs-Coalesce, outs-Negate, outs-Plus, outs-Not, outs-Or, outs-Xor, outs-And, outs-Compare, outs-Test, outs-Arith}
use Rattle.gq_expr.specs.declared.expr.Tester.{Tester}
use Rattle.gq_expr.specs.declared.kinds.Kinds.{Kinds}
use Rattle.gq_expr.proofs.Testers.{testers_map}

may_at : (kinds : Kinds) (e : Expr) (l : Expr-F Expr) → out-Expr e ≡ l → may kinds e ≡ may_step kinds (map-Expr Expr May (may kinds) l)
unfolding may
may_at kinds e l h = fold_out-Expr May (may_step kinds) e ∙ ap (λ x. may_step kinds (map-Expr Expr May (may kinds) x)) h

pub may_Literal : (kinds : Kinds) (l : Spelled) → may kinds (Literal l) ≡ safe (literal_kinds l)
may_Literal kinds l = may_at kinds (Literal l) (Expr-F.Literal l) (outs-Literal l)

pub may_Node : (kinds : Kinds) (n : ℕ) → may kinds (Node n) ≡ safe (node ∷ [])
may_Node kinds n = may_at kinds (Node n) (Expr-F.Node n) (outs-Node n)

pub may_Rel : (kinds : Kinds) (n : ℕ) → may kinds (Rel n) ≡ safe (relationship ∷ [])
may_Rel kinds n = may_at kinds (Rel n) (Expr-F.Rel n) (outs-Rel n)

pub may_NodeProperty : (kinds : Kinds) (n : ℕ) (name : List ℕ) → may kinds (NodeProperty n name) ≡ safe (kinds_at (field_kind (slice_get kinds.nodes n) name))
may_NodeProperty kinds n name = may_at kinds (NodeProperty n name) (Expr-F.NodeProperty n name) (outs-NodeProperty n name)

pub may_RelProperty : (kinds : Kinds) (n : ℕ) (name : List ℕ) → may kinds (RelProperty n name) ≡ safe (kinds_at (field_kind (slice_get kinds.rels n) name))
may_RelProperty kinds n name = may_at kinds (RelProperty n name) (Expr-F.RelProperty n name) (outs-RelProperty n name)

pub may_TypeName : (kinds : Kinds) (e : Expr) → may kinds (TypeName e) ≡ type_may (may kinds e)
may_TypeName kinds e = may_at kinds (TypeName e) (Expr-F.TypeName e) (outs-TypeName e)

pub may_Coalesce : (kinds : Kinds) (es : List Expr) → may kinds (Coalesce es) ≡ all_of (map (may kinds) es)
may_Coalesce kinds es = may_at kinds (Coalesce es) (Expr-F.Coalesce es) (outs-Coalesce es)

pub may_Negate : (kinds : Kinds) (e : Expr) → may kinds (Negate e) ≡ arithmetic
may_Negate kinds e = may_at kinds (Negate e) (Expr-F.Negate e) (outs-Negate e)

pub may_Plus : (kinds : Kinds) (e : Expr) → may kinds (Plus e) ≡ arithmetic
may_Plus kinds e = may_at kinds (Plus e) (Expr-F.Plus e) (outs-Plus e)

pub may_Not : (kinds : Kinds) (e : Expr) → may kinds (Not e) ≡ truth (misfits (may kinds e))
may_Not kinds e = may_at kinds (Not e) (Expr-F.Not e) (outs-Not e)

pub may_Or : (kinds : Kinds) (es : List Expr) → may kinds (Or es) ≡ truth (list_any misfits (map (may kinds) es))
may_Or kinds es = may_at kinds (Or es) (Expr-F.Or es) (outs-Or es)

pub may_Xor : (kinds : Kinds) (es : List Expr) → may kinds (Xor es) ≡ truth (list_any misfits (map (may kinds) es))
may_Xor kinds es = may_at kinds (Xor es) (Expr-F.Xor es) (outs-Xor es)

pub may_And : (kinds : Kinds) (es : List Expr) → may kinds (And es) ≡ truth (list_any misfits (map (may kinds) es))
may_And kinds es = may_at kinds (And es) (Expr-F.And es) (outs-And es)

pub may_Compare : (kinds : Kinds) (e : Expr) (ts : List (Operand CompareOp Expr)) → may kinds (Compare e ts) ≡ truth ((may kinds e).faults || list_any term_faults (map (operand_with (may kinds)) ts))
may_Compare kinds e ts = may_at kinds (Compare e ts) (Expr-F.Compare e ts) (outs-Compare e ts)

pub may_Arith : (kinds : Kinds) (e : Expr) (ts : List (Operand ArithOp Expr)) → may kinds (Arith e ts) ≡ arithmetic
may_Arith kinds e ts = may_at kinds (Arith e ts) (Expr-F.Arith e ts) (outs-Arith e ts)

pub may_Test : (kinds : Kinds) (e : Expr) (ts : List (Tester Expr)) → may kinds (Test e ts) ≡ test_may (may kinds e) (map (tester_with (may kinds)) ts)
may_Test kinds e ts = may_at kinds (Test e ts) (Expr-F.Test e ts) (outs-Test e ts) ∙ ap (test_may (may kinds e)) (sym (testers_map (may kinds) ts))

-- all of them
pub ruleset equations = (may_Literal, may_Node, may_Rel, may_NodeProperty, may_RelProperty, may_TypeName, may_Coalesce, may_Negate, may_Plus, may_Not, may_Or, may_Xor, may_And, may_Compare, may_Test, may_Arith)
