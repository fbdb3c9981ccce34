use Rattle.std.proofs.Common.{◌≡◌, ◌+◌, drop}
use Rattle.gq_bound.specs.Refusals.{paths_of, rels_in}
use Rattle.gq_binder.proofs.pattern_counts.has_many_rels.Given as goal

abbrev pub invariant-loop-test : goal.invariant-loop-test
invariant-loop-test l = l.rels + rels_in (paths_of (drop l.test-index l.tests)) ≡ l.own + rels_in (paths_of l.tests)
