use Rattle.std.proofs.Common.{rules, subst, sym}
use Rattle.gq_filter.proofs.RowLanes.{sources_of_feeds}
use Rattle.gq_filter.specs.Sources.{AreSources}
use Rattle.gq_filter.proofs.read_test.ReadTest.new.Goals as goal

pub compile-requires-clause-sound : goal.compile-requires-clause-sound
compile-requires-clause-sound c =
    subst AreSources (sym c.as_slice.ensures.value) (sources_of_feeds c.args.graph.now c.args.typed.now c.add_feeds.new.feeds.items c.in_ok-add_feeds.ensures)

pub invariant_of-result : goal.invariant_of-result
invariant_of-result c = record {
  few = search rules;
  typed = c.args.typed.now;
  are = c.in_ok-add_feeds.ensures;
  decides = rw (c.in-Some.is, c.as_slice.ensures.value) at c.in_ok-compile.ensures;
}
