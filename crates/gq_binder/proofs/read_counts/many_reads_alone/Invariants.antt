use Rattle.std.proofs.Common.{◌≡◌, drop, map}
use Rattle.gq_bound.specs.Refusals.{first_of_all, reads_alone}
use Rattle.gq_binder.proofs.read_counts.many_reads_alone.Given as goal

abbrev pub invariant-loop-test : goal.invariant-loop-test
invariant-loop-test l = first_of_all (map reads_alone (drop l.test-index l.tests)) ≡ first_of_all (map reads_alone l.tests)
