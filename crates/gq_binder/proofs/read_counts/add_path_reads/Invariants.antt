use Rattle.std.proofs.Common.{◌≡◌, drop, length}
use Rattle.gq_bound.specs.Refusals.{path_reads}
use Rattle.gq_plan.specs.Reads.{with_reads}
use Rattle.gq_binder.proofs.read_counts.add_path_reads.Given as goal

abbrev pub invariant-loop-test : goal.invariant-loop-test
invariant-loop-test l =
    with_reads l.reads (path_reads l.nodes l.rels (drop l.test-index l.tests)) ≡ with_reads l.fn.reads (path_reads (length l.pattern.names) (length l.pattern.rels) l.tests)
