-- The meaning of an expression in a graph under an assignment: strict, the left operand first, and the first fault
-- met is the answer (openCypher 9 has the operators; that evaluation is strict and the faults are this project's
-- profile). Chains are read as pairs nested to the left.
use Rattle.std.specs.Prelude.{Bool, true, not, List, [], ◌∷◌, Option, Some, Ok}
use Rattle.gq_base.specs.Results.{and_then}
use Rattle.gq_base.specs.Plain.{Graph}
use Rattle.gq_base.specs.Values.{Val, null, flag, literal_val}
use Rattle.gq_expr.specs.Operators.{Outcome, of_truth, logic_vals, not_val, first_known, compare_vals, is_null_val, member_of, text_vals, arith_vals, negate_val, plus_val, type_val}
use Rattle.gq_expr.specs.Reading.{Assignment, node_val, rel_val, property_at, node_property, rel_property, type_name}
use Rattle.gq_base.specs.Truth.{and3}
use Rattle.gq_base.specs.declared.operator.ArithOp.{ArithOp}
use Rattle.gq_expr.specs.declared.expr.Operand.{Operand}
use Rattle.gq_base.specs.declared.operator.CompareOp.{CompareOp}
use Rattle.gq_expr.specs.declared.expr.Expr.{Expr, Expr-F, fold-Expr}
use Rattle.gq_expr.specs.declared.expr.LogicOp.{LogicOp}
use Rattle.gq_expr.specs.declared.expr.LogicOp.TheVariants as logic
use Rattle.gq_expr.specs.declared.expr.Tester.{Tester}
use Rattle.gq_expr.specs.declared.expr.Tester.TheVariants as tester

-- the further operands of a logical chain, each evaluated after the operators before it
abbrev pub logic_chain : LogicOp → Val → List Outcome → Outcome
logic_chain op acc [] = Ok acc
logic_chain op acc (r ∷ rs) = and_then r (λ v. and_then (logic_vals op acc v) (λ w. logic_chain op w rs))

-- a logical chain; one without operands, which no query spells, is null
abbrev pub logic_all : LogicOp → List Outcome → Outcome
logic_all op [] = Ok null
logic_all op (r ∷ rs) = and_then r (λ v. logic_chain op v rs)

-- the first value that is not null, else null; each argument is evaluated
abbrev pub coalesce_all : Val → List Outcome → Outcome
coalesce_all acc [] = Ok acc
coalesce_all acc (r ∷ rs) = and_then r (λ v. coalesce_all (first_known acc v) rs)

-- a chain of comparisons: `a < b <= c` is `a < b AND b <= c`
abbrev pub compare_chain : Option Bool → Val → List (Operand CompareOp Outcome) → Outcome
compare_chain acc a [] = Ok (of_truth acc)
compare_chain acc a (t ∷ ts) = and_then t.expr (λ b. compare_chain (and3 acc (compare_vals t.op a b)) b ts)

-- one test of a value
abbrev pub test_val : Tester Outcome → Val → Outcome
test_val tester.IsNull a = Ok (flag (is_null_val a))
test_val tester.IsNotNull a = Ok (flag (not (is_null_val a)))
test_val (tester.Member ls) a = Ok (of_truth (member_of a ls))
test_val (tester.Text test r) a = and_then r (λ b. Ok (of_truth (text_vals test a b)))

-- tests one after another, each of the answer before it
abbrev pub test_chain : Val → List (Tester Outcome) → Outcome
test_chain a [] = Ok a
test_chain a (t ∷ ts) = and_then (test_val t a) (λ b. test_chain b ts)

-- a chain of operators on integers
abbrev pub arith_chain : Val → List (Operand ArithOp Outcome) → Outcome
arith_chain a [] = Ok a
arith_chain a (t ∷ ts) = and_then t.expr (λ b. and_then (arith_vals t.op a b) (λ c. arith_chain c ts))

-- one level of an expression, with the outcome of each part in its place
abbrev pub meaning_step : Graph → Assignment → Expr-F Outcome → Outcome
meaning_step g row (Expr-F.Literal l) = Ok (literal_val l)
meaning_step g row (Expr-F.Node n) = Ok (node_val (row.nodes n))
meaning_step g row (Expr-F.Rel n) = Ok (rel_val (row.rels n))
meaning_step g row (Expr-F.NodeProperty n name) = Ok (property_at (node_property g) (row.nodes n) name)
meaning_step g row (Expr-F.RelProperty n name) = Ok (property_at (rel_property g) (row.rels n) name)
meaning_step g row (Expr-F.TypeName e) = and_then e (type_val (type_name g))
meaning_step g row (Expr-F.Coalesce es) = coalesce_all null es
meaning_step g row (Expr-F.Negate e) = and_then e negate_val
meaning_step g row (Expr-F.Plus e) = and_then e plus_val
meaning_step g row (Expr-F.Not e) = and_then e not_val
meaning_step g row (Expr-F.Or es) = logic_all logic.Or es
meaning_step g row (Expr-F.Xor es) = logic_all logic.Xor es
meaning_step g row (Expr-F.And es) = logic_all logic.And es
meaning_step g row (Expr-F.Compare e ts) = and_then e (λ a. compare_chain (Some true) a ts)
meaning_step g row (Expr-F.Test e ts) = and_then e (λ a. test_chain a ts)
meaning_step g row (Expr-F.Arith e ts) = and_then e (λ a. arith_chain a ts)

-- the value of an expression, or its first fault
unfoldable pub meaning : Graph → Assignment → Expr → Outcome
meaning g row = fold-Expr Outcome (meaning_step g row)
