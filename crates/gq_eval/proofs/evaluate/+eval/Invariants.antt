use Rattle.std.proofs.Common.{◌≡◌, ℕ, List, drop, flat_map, map, Some, true}
use Rattle.gq_base.specs.Values.{val, null}
use Rattle.gq_expr.specs.Operators.{Outcome}
use Rattle.gq_expr.specs.Meaning.{meaning, logic_all, logic_chain, coalesce_all, compare_chain, arith_chain, test_chain}
use Rattle.gq_expr.specs.steps.Parts.{operand_with, tester_with}
use Rattle.gq_expr.specs.declared.expr.Expr.{Expr}
use Rattle.gq_eval.specs.steps.Places.{Leads, expr_places, past, tester_places}
use Rattle.gq_eval.proofs.evaluate.+eval.Given as goal

abbrev pub invariant-eval_logic-loop-part : goal.invariant-eval_logic-loop-part
invariant-eval_logic-loop-part g l =
    let go : Expr → Outcome = meaning l.graph (g.R.Assigned.assignment l.row) in
    let left : List ℕ = flat_map (expr_places l.graph.catalog) (drop l.part-index l.rest) in
    record {
      value : logic_chain l.op (val l.value) (map go (drop l.part-index l.rest)) ≡ logic_all l.op (map go l.all);
      leads : Leads left l.places.now;
      behind : past left l.places.now ≡ past (flat_map (expr_places l.graph.catalog) l.all) l.fn.places.now;
    }

abbrev pub invariant-eval_coalesce-loop-part : goal.invariant-eval_coalesce-loop-part
invariant-eval_coalesce-loop-part g l =
    let go : Expr → Outcome = meaning l.graph (g.R.Assigned.assignment l.row) in
    let left : List ℕ = flat_map (expr_places l.graph.catalog) (drop l.part-index l.all) in
    record {
      value : coalesce_all (val l.value) (map go (drop l.part-index l.all)) ≡ coalesce_all null (map go l.all);
      leads : Leads left l.places.now;
      behind : past left l.places.now ≡ past (flat_map (expr_places l.graph.catalog) l.all) l.fn.places.now;
    }

abbrev pub invariant-eval_compares-loop-term : goal.invariant-eval_compares-loop-term
invariant-eval_compares-loop-term g l =
    let go : Expr → Outcome = meaning l.graph (g.R.Assigned.assignment l.row) in
    let left : List ℕ = flat_map (λ t. expr_places l.graph.catalog t.expr) (drop l.term-index l.terms) in
    record {
      value : compare_chain l.truth (val l.before) (map (operand_with go) (drop l.term-index l.terms)) ≡ compare_chain (Some true) (val l.first) (map (operand_with go) l.terms);
      leads : Leads left l.places.now;
      behind : past left l.places.now ≡ past (flat_map (λ t. expr_places l.graph.catalog t.expr) l.terms) l.fn.places.now;
    }

abbrev pub invariant-eval_tests-loop-tester : goal.invariant-eval_tests-loop-tester
invariant-eval_tests-loop-tester g l =
    let go : Expr → Outcome = meaning l.graph (g.R.Assigned.assignment l.row) in
    let left : List ℕ = flat_map (tester_places l.graph.catalog) (drop l.tester-index l.testers) in
    record {
      value : test_chain (val l.value) (map (tester_with go) (drop l.tester-index l.testers)) ≡ test_chain (val l.first) (map (tester_with go) l.testers);
      leads : Leads left l.places.now;
      behind : past left l.places.now ≡ past (flat_map (tester_places l.graph.catalog) l.testers) l.fn.places.now;
    }

abbrev pub invariant-eval_ariths-loop-term : goal.invariant-eval_ariths-loop-term
invariant-eval_ariths-loop-term g l =
    let go : Expr → Outcome = meaning l.graph (g.R.Assigned.assignment l.row) in
    let left : List ℕ = flat_map (λ t. expr_places l.graph.catalog t.expr) (drop l.term-index l.terms) in
    record {
      value : arith_chain (val l.value) (map (operand_with go) (drop l.term-index l.terms)) ≡ arith_chain (val l.first) (map (operand_with go) l.terms);
      leads : Leads left l.places.now;
      behind : past left l.places.now ≡ past (flat_map (λ t. expr_places l.graph.catalog t.expr) l.terms) l.fn.places.now;
    }
