use Rattle.std.proofs.Common.{◌≡◌, ◌+◌, drop}
use Rattle.gq_bound.specs.Refusals.{nodes_in, paths_of}
use Rattle.gq_binder.proofs.pattern_counts.has_many_nodes.Given as goal

abbrev pub invariant-loop-test : goal.invariant-loop-test
invariant-loop-test l = l.nodes + nodes_in (paths_of (drop l.test-index l.tests)) ≡ l.own + nodes_in (paths_of l.tests)
