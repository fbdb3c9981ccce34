use Rattle.gq_filter.proofs.RowLanes.{rows_decided, sources_of_feeds}
use Rattle.gq_filter.proofs.deciders.test_of.Goals as goal

pub compile-requires-clause-sound : goal.compile-requires-clause-sound
compile-requires-clause-sound c = sources_of_feeds c.args.graph.now c.args.typed.now c.args.feeds.now c.requires

pub returns : goal.returns
returns c =
    let found = c.in_ok-test.test in
    rows_decided c.args.graph.now c.args.typed.now c.args.condition.now c.args.feeds.now found c.requires (rw c.get.ensures at c.in_ok-test.ensures)
