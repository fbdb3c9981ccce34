-- The equations of `meaning`, one for each variant.
use Rattle.std.proofs.Common.{◌≡◌, ◌∙◌, ap, sym, ℕ, List, map, Ok, Some, true}
use Rattle.gq_base.specs.Results.{and_then}
use Rattle.gq_base.specs.Plain.{Graph}
use Rattle.gq_base.specs.Values.{literal_val, null}
use Rattle.gq_base.specs.declared.Literal.{Literal as Spelled}
use Rattle.gq_expr.specs.Operators.{Outcome, not_val, negate_val, plus_val, type_val}
use Rattle.gq_expr.specs.Meaning.{meaning, meaning_step, logic_all, coalesce_all, compare_chain, arith_chain, test_chain}
use Rattle.gq_expr.specs.steps.Parts.{operand_with, tester_with}
use Rattle.gq_expr.specs.Reading.{Assignment, node_val, rel_val, property_at, node_property, rel_property, type_name}
use Rattle.gq_base.specs.declared.operator.ArithOp.{ArithOp}
use Rattle.gq_expr.specs.declared.expr.Operand.{Operand}
use Rattle.gq_base.specs.declared.operator.CompareOp.{CompareOp}
use Rattle.gq_expr.specs.declared.expr.Expr.{Expr, Expr-F, out-Expr, map-Expr, fold_out-Expr}
use Rattle.gq_expr.specs.declared.expr.Expr.TheVariants.{Literal, Node, Rel, NodeProperty, RelProperty, TypeName, Coalesce, Negate, Plus, Not, Or, Xor, And, Compare, Test, Arith, outs-Literal, outs-Node, outs-Rel, outs-NodeProperty, outs-RelProperty, outs-TypeName, outs-Coalesce, outs-Negate, outs-Plus, outs-Not, outs-Or, outs-Xor, outs-And, outs-Compare, outs-Test, outs-Arith}
use Rattle.gq_expr.specs.declared.expr.LogicOp.TheVariants as logic
use Rattle.gq_expr.specs.declared.expr.Tester.{Tester}
use Rattle.gq_expr.proofs.Testers.{testers_map}

meaning_at : (g : Graph) (row : Assignment) (e : Expr) (l : Expr-F Expr) → out-Expr e ≡ l → meaning g row e ≡ meaning_step g row (map-Expr Expr Outcome (meaning g row) l)
unfolding meaning
meaning_at g row e l h = fold_out-Expr Outcome (meaning_step g row) e ∙ ap (λ x. meaning_step g row (map-Expr Expr Outcome (meaning g row) x)) h

pub meaning_Literal : (g : Graph) (row : Assignment) (l : Spelled) → meaning g row (Literal l) ≡ Ok (literal_val l)
meaning_Literal g row l = meaning_at g row (Literal l) (Expr-F.Literal l) (outs-Literal l)

pub meaning_Node : (g : Graph) (row : Assignment) (n : ℕ) → meaning g row (Node n) ≡ Ok (node_val (row.nodes n))
meaning_Node g row n = meaning_at g row (Node n) (Expr-F.Node n) (outs-Node n)

pub meaning_Rel : (g : Graph) (row : Assignment) (n : ℕ) → meaning g row (Rel n) ≡ Ok (rel_val (row.rels n))
meaning_Rel g row n = meaning_at g row (Rel n) (Expr-F.Rel n) (outs-Rel n)

pub meaning_NodeProperty : (g : Graph) (row : Assignment) (n : ℕ) (name : List ℕ) → meaning g row (NodeProperty n name) ≡ Ok (property_at (node_property g) (row.nodes n) name)
meaning_NodeProperty g row n name = meaning_at g row (NodeProperty n name) (Expr-F.NodeProperty n name) (outs-NodeProperty n name)

pub meaning_RelProperty : (g : Graph) (row : Assignment) (n : ℕ) (name : List ℕ) → meaning g row (RelProperty n name) ≡ Ok (property_at (rel_property g) (row.rels n) name)
meaning_RelProperty g row n name = meaning_at g row (RelProperty n name) (Expr-F.RelProperty n name) (outs-RelProperty n name)

pub meaning_TypeName : (g : Graph) (row : Assignment) (e : Expr) → meaning g row (TypeName e) ≡ and_then (meaning g row e) (type_val (type_name g))
meaning_TypeName g row e = meaning_at g row (TypeName e) (Expr-F.TypeName e) (outs-TypeName e)

pub meaning_Coalesce : (g : Graph) (row : Assignment) (es : List Expr) → meaning g row (Coalesce es) ≡ coalesce_all null (map (meaning g row) es)
meaning_Coalesce g row es = meaning_at g row (Coalesce es) (Expr-F.Coalesce es) (outs-Coalesce es)

pub meaning_Negate : (g : Graph) (row : Assignment) (e : Expr) → meaning g row (Negate e) ≡ and_then (meaning g row e) negate_val
meaning_Negate g row e = meaning_at g row (Negate e) (Expr-F.Negate e) (outs-Negate e)

pub meaning_Plus : (g : Graph) (row : Assignment) (e : Expr) → meaning g row (Plus e) ≡ and_then (meaning g row e) plus_val
meaning_Plus g row e = meaning_at g row (Plus e) (Expr-F.Plus e) (outs-Plus e)

pub meaning_Not : (g : Graph) (row : Assignment) (e : Expr) → meaning g row (Not e) ≡ and_then (meaning g row e) not_val
meaning_Not g row e = meaning_at g row (Not e) (Expr-F.Not e) (outs-Not e)

pub meaning_Or : (g : Graph) (row : Assignment) (es : List Expr) → meaning g row (Or es) ≡ logic_all logic.Or (map (meaning g row) es)
meaning_Or g row es = meaning_at g row (Or es) (Expr-F.Or es) (outs-Or es)

pub meaning_Xor : (g : Graph) (row : Assignment) (es : List Expr) → meaning g row (Xor es) ≡ logic_all logic.Xor (map (meaning g row) es)
meaning_Xor g row es = meaning_at g row (Xor es) (Expr-F.Xor es) (outs-Xor es)

pub meaning_And : (g : Graph) (row : Assignment) (es : List Expr) → meaning g row (And es) ≡ logic_all logic.And (map (meaning g row) es)
meaning_And g row es = meaning_at g row (And es) (Expr-F.And es) (outs-And es)

pub meaning_Compare : (g : Graph) (row : Assignment) (e : Expr) (ts : List (Operand CompareOp Expr)) → meaning g row (Compare e ts) ≡ and_then (meaning g row e) (λ a. compare_chain (Some true) a (map (operand_with (meaning g row)) ts))
meaning_Compare g row e ts = meaning_at g row (Compare e ts) (Expr-F.Compare e ts) (outs-Compare e ts)

pub meaning_Test : (g : Graph) (row : Assignment) (e : Expr) (ts : List (Tester Expr)) → meaning g row (Test e ts) ≡ and_then (meaning g row e) (λ a. test_chain a (map (tester_with (meaning g row)) ts))
meaning_Test g row e ts = meaning_at g row (Test e ts) (Expr-F.Test e ts) (outs-Test e ts) ∙ ap (λ r. and_then (meaning g row e) (λ a. test_chain a r)) (sym (testers_map (meaning g row) ts))

pub meaning_Arith : (g : Graph) (row : Assignment) (e : Expr) (ts : List (Operand ArithOp Expr)) → meaning g row (Arith e ts) ≡ and_then (meaning g row e) (λ a. arith_chain a (map (operand_with (meaning g row)) ts))
meaning_Arith g row e ts = meaning_at g row (Arith e ts) (Expr-F.Arith e ts) (outs-Arith e ts)

-- all of them
pub ruleset equations = (meaning_Literal, meaning_Node, meaning_Rel, meaning_NodeProperty, meaning_RelProperty, meaning_TypeName, meaning_Coalesce, meaning_Negate, meaning_Plus, meaning_Not, meaning_Or, meaning_Xor, meaning_And, meaning_Compare, meaning_Test, meaning_Arith)
