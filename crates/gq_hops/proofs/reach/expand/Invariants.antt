use Rattle.std.proofs.Common.{◌≡◌, Some, length}
use Rattle.gq_hops.specs.Levels.{met_all, spread_over}
use Rattle.gq_hops.specs.steps.Sizes.{AreNodes}
use Rattle.gq_hops.specs.steps.Hops.{IsLevel, left_of}
use Rattle.gq_hops.proofs.reach.expand.Given as goal

abbrev pub invariant-loop-met : goal.invariant-loop-met
invariant-loop-met l = record {
  level : IsLevel l.follow l.level;
  sizes : l.visited.sizes ≡ l.initial.visited.sizes;
  there : AreNodes l.follow.graph.now l.visited.nodes;
  rest : spread_over l.follow.graph.now l.follow.way l.used l.visited.nodes (left_of l.follow l.level)
      ≡ spread_over l.follow.graph.now l.follow.way l.used l.initial.visited.nodes (met_all l.follow.graph.now l.follow.kind.now l.follow.way (Some l.fn.at));
}

abbrev pub decreases-loop-met : goal.decreases-loop-met
decreases-loop-met l = length (left_of l.follow l.level)
