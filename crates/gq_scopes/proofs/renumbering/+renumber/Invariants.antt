use Rattle.std.proofs.Common.{◌≡◌, map, take}
use Rattle.gq_expr.specs.steps.Parts.{operand_with, tester_with}
use Rattle.gq_scopes.specs.Renumbering.{node_number, rel_number, renumbered}
use Rattle.gq_scopes.proofs.renumbering.+renumber.Given as goal

abbrev pub invariant-each-loop-part : goal.invariant-each-loop-part
invariant-each-loop-part l = l.copies ≡ map (renumbered (node_number l.numbering) (rel_number l.numbering)) (take l.part-index l.all)

abbrev pub invariant-compares-loop-term : goal.invariant-compares-loop-term
invariant-compares-loop-term l = l.copies ≡ map (operand_with (renumbered (node_number l.numbering) (rel_number l.numbering))) (take l.term-index l.terms)

abbrev pub invariant-ariths-loop-term : goal.invariant-ariths-loop-term
invariant-ariths-loop-term l = l.copies ≡ map (operand_with (renumbered (node_number l.numbering) (rel_number l.numbering))) (take l.term-index l.terms)

abbrev pub invariant-testers-loop-tester : goal.invariant-testers-loop-tester
invariant-testers-loop-tester l = l.copies ≡ map (tester_with (renumbered (node_number l.numbering) (rel_number l.numbering))) (take l.tester-index l.all)
