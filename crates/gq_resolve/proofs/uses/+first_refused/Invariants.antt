use Rattle.std.proofs.Common.{◌≡◌, drop, map}
use Rattle.gq_ast.specs.Operands.{in_tester}
use Rattle.gq_resolve.specs.Checks.{check_of}
use Rattle.gq_resolve.specs.steps.Trees.{term_with, tester_with}
use Rattle.gq_resolve.specs.Uses.{uses, term_uses}
use Rattle.gq_resolve.specs.steps.Uses.{first_of}
use Rattle.gq_resolve.proofs.uses.+first_refused.Given as goal

abbrev pub invariant-first_of_all-loop-tree : goal.invariant-first_of_all-loop-tree
invariant-first_of_all-loop-tree l =
    first_of (check_of l.check l.scope) (map uses (drop l.tree-index l.trees)) ≡ first_of (check_of l.check l.scope) (map uses l.trees)

abbrev pub invariant-first_of_compares-loop-term : goal.invariant-first_of_compares-loop-term
invariant-first_of_compares-loop-term l =
    first_of (check_of l.check l.scope) (map term_uses (map (term_with uses) (drop l.term-index l.terms))) ≡ first_of (check_of l.check l.scope) (map term_uses (map (term_with uses) l.terms))

abbrev pub invariant-first_of_ariths-loop-term : goal.invariant-first_of_ariths-loop-term
invariant-first_of_ariths-loop-term l =
    first_of (check_of l.check l.scope) (map term_uses (map (term_with uses) (drop l.term-index l.terms))) ≡ first_of (check_of l.check l.scope) (map term_uses (map (term_with uses) l.terms))

abbrev pub invariant-first_of_testers-loop-tester : goal.invariant-first_of_testers-loop-tester
invariant-first_of_testers-loop-tester l =
    first_of (check_of l.check l.scope) (map in_tester (map (tester_with uses) (drop l.tester-index l.testers))) ≡ first_of (check_of l.check l.scope) (map in_tester (map (tester_with uses) l.testers))
