use Rattle.std.proofs.Common.{◌<◌, subst}
use Rattle.gq_hops.proofs.Rounds.{round_next}
use Rattle.gq_hops.proofs.reach.expand_from.Goals as goal

pub loop-place-preserved : goal.loop-place-preserved
loop-place-preserved c =
    round_next c.args.follow.now c.args.used.now c.args.visited.now c.args.next c.loop-place.place c.loop-place.visited c.expand.new.visited c.node-at.result c.loop-place.invariant
    (subst (λ k. c.loop-place.place < k) c.count-end.ensures c.loop-place-test.true) c.node-at.ensures c.expand.ensures.sizes c.expand.ensures.there c.expand.ensures.nodes
