use Rattle.std.proofs.Common.{◌≡◌, ◌++◌, drop, flat_map}
use Rattle.gq_resolve.specs.Places.{paths_in}
use Rattle.gq_resolve.specs.steps.Places.{tester_paths}
use Rattle.gq_resolve.proofs.exists.+push_paths.Given as goal

abbrev pub invariant-push_all_paths-loop-tree : goal.invariant-push_all_paths-loop-tree
invariant-push_all_paths-loop-tree l = l.paths ++ flat_map paths_in (drop l.tree-index l.trees) ≡ l.fn.paths ++ flat_map paths_in l.trees

abbrev pub invariant-push_compared_paths-loop-term : goal.invariant-push_compared_paths-loop-term
invariant-push_compared_paths-loop-term l = l.paths ++ flat_map (λ t. paths_in t.tree) (drop l.term-index l.terms) ≡ l.fn.paths ++ flat_map (λ t. paths_in t.tree) l.terms

abbrev pub invariant-push_operand_paths-loop-term : goal.invariant-push_operand_paths-loop-term
invariant-push_operand_paths-loop-term l = l.paths ++ flat_map (λ t. paths_in t.tree) (drop l.term-index l.terms) ≡ l.fn.paths ++ flat_map (λ t. paths_in t.tree) l.terms

abbrev pub invariant-push_tester_paths-loop-tester : goal.invariant-push_tester_paths-loop-tester
invariant-push_tester_paths-loop-tester l = l.paths ++ flat_map tester_paths (drop l.tester-index l.testers) ≡ l.fn.paths ++ flat_map tester_paths l.testers
