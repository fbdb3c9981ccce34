use Rattle.std.proofs.Common.{◌≡◌, drop, map}
use Rattle.std.specs.List.{list_any}
use Rattle.gq_expr.specs.Kinds.{may, all_of, misfits, term_faults, tester_faults}
use Rattle.gq_expr.specs.steps.Kinds.{summary_of, both}
use Rattle.gq_expr.specs.steps.Parts.{operand_with, tester_with}
use Rattle.gq_expr.proofs.kinds.+summarize.Given as goal

abbrev pub invariant-summary_of_all-loop-part : goal.invariant-summary_of_all-loop-part
invariant-summary_of_all-loop-part l = both l.whole (summary_of (all_of (map (may l.kinds) (drop l.part-index l.all)))) ≡ summary_of (all_of (map (may l.kinds) l.all))

abbrev pub invariant-some_misfits-loop-part : goal.invariant-some_misfits-loop-part
invariant-some_misfits-loop-part l = list_any misfits (map (may l.kinds) (drop l.part-index l.all)) ≡ list_any misfits (map (may l.kinds) l.all)

abbrev pub invariant-some_term_faults-loop-term : goal.invariant-some_term_faults-loop-term
invariant-some_term_faults-loop-term l = list_any term_faults (map (operand_with (may l.kinds)) (drop l.term-index l.terms)) ≡ list_any term_faults (map (operand_with (may l.kinds)) l.terms)

abbrev pub invariant-some_tester_faults-loop-tester : goal.invariant-some_tester_faults-loop-tester
invariant-some_tester_faults-loop-tester l = list_any tester_faults (map (tester_with (may l.kinds)) (drop l.tester-index l.testers)) ≡ list_any tester_faults (map (tester_with (may l.kinds)) l.testers)
