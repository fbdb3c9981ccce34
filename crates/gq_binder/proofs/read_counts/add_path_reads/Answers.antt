use Rattle.gq_bound.proofs.ReadingLemmas.{paths_next}
use Rattle.gq_binder.proofs.read_counts.add_path_reads.Goals as goal

pub loop-test-preserved : goal.loop-test-preserved
loop-test-preserved c =
    paths_next c.args.tests.now c.loop-test.test-index c.test-item.result c.loop-test-test.true c.test-item.is c.loop-test.nodes c.loop-test.rels c.add_path.new.nodes c.add_path.new.rels c.loop-test.reads c.add_path.new.reads _
    c.in_ok-add_path.ensures.reads c.in_ok-add_path.ensures.nodes c.in_ok-add_path.ensures.rels c.loop-test.invariant
