use Rattle.std.proofs.Common.{◌∷◌, [], Option, true, subst}
use Rattle.std.specs.Prelude.{IfSome}
use Rattle.gq_filter.specs.Deciding.{Decides}
use Rattle.gq_filter.specs.declared.lane_test.LaneTest.{LaneTest}
use Rattle.gq_ends.proofs.Testing.{needed, source_of}
use Rattle.gq_ends.proofs.end_test.end_test.Goals as goal

pub compile-requires-clause-sound : goal.compile-requires-clause-sound
compile-requires-clause-sound c = source_of c.args.graph.now c.args.part.now c.args.table c.in-Some.name.now c.in-Some-node_feed.feed c.in-Some-node_feed.ensures.some

pub returns-in-Some-2 : goal.returns-in-Some-2
returns-in-Some-2 c =
    let decides = subst {A = Option LaneTest} (λ found. IfSome found (Decides true (c.in-Some-node_feed.feed ∷ []) c.args.asked.now.expr)) c.in-Some-2.is (rw c.get-expr.ensures at c.in_ok-compile.ensures) in
    needed c.args.graph.now c.args.part.now c.args.table c.in-Some.name.now c.in-Some-node_feed.feed c.in-Some-node_feed.ensures.some c.args.asked.now c.requires.asked c.in-Some-2.test c.column.result c.column.ensures.is decides
