use Rattle.std.proofs.Common.{◌≡◌, ◌++◌, drop, flat_map}
use Rattle.gq_expr.specs.steps.Parts.{tester_with}
use Rattle.gq_plan.specs.Reads.{reads, tester_reads}
use Rattle.gq_plan.proofs.reading.+add_reads.Given as goal

abbrev pub invariant-add_each-loop-part : goal.invariant-add_each-loop-part
invariant-add_each-loop-part l = l.reads ++ flat_map reads (drop l.part-index l.all) ≡ l.fn.reads ++ flat_map reads l.all

abbrev pub invariant-add_compares-loop-term : goal.invariant-add_compares-loop-term
invariant-add_compares-loop-term l = l.reads ++ flat_map (λ t. reads t.expr) (drop l.term-index l.terms) ≡ l.fn.reads ++ flat_map (λ t. reads t.expr) l.terms

abbrev pub invariant-add_ariths-loop-term : goal.invariant-add_ariths-loop-term
invariant-add_ariths-loop-term l = l.reads ++ flat_map (λ t. reads t.expr) (drop l.term-index l.terms) ≡ l.fn.reads ++ flat_map (λ t. reads t.expr) l.terms

abbrev pub invariant-add_testers-loop-tester : goal.invariant-add_testers-loop-tester
invariant-add_testers-loop-tester l =
    l.reads ++ flat_map (λ t. tester_reads (tester_with reads t)) (drop l.tester-index l.testers) ≡ l.fn.reads ++ flat_map (λ t. tester_reads (tester_with reads t)) l.testers
