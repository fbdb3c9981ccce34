use Rattle.std.proofs.Common.{◌∙◌}
use Rattle.gq_hops.proofs.Reaching.{next_levels}
use Rattle.gq_hops.proofs.reach.reach_on.Goals as goal

pub loop-level-preserved : goal.loop-level-preserved
loop-level-preserved c = record {
  sizes = c.expand_from-next.ensures.sizes ∙ c.loop-level.invariant.sizes;
  there = c.expand_from-next.ensures.there;
  rest = next_levels c.args.follow.now.graph.now c.args.follow.now.kind.now c.args.follow.now.way c.args.used.now c.args.high c.loop-level.level c.loop-level.next c.expand_from-next.result
      c.loop-level.visited.nodes c.expand_from-next.new.visited.nodes c.loop-level-test.true c.expand_from-next.ensures.count c.expand_from-next.ensures.nodes ∙ c.loop-level.invariant.rest;
}
