use Rattle.std.proofs.Common.{◌≡◌, ◌-◌, ◌+◌, true, drop, length, ap, refl, sym, ◌∙◌}
use Rattle.std.specs.List.{list_any}
use Rattle.gq_plan.specs.Assignments.{same_node}
use Rattle.gq_hops.specs.Levels.{spread_each, spread_levels}
use Rattle.gq_hops.proofs.Reaching.{longer_levels, next_levels, there_longer}
use Rattle.gq_hops.proofs.reach.seek_on.Goals as goal

pub loop-level-preserved : goal.loop-level-preserved
loop-level-preserved c = record {
  sizes = c.seek_from.ensures.sizes ∙ c.loop-level.invariant.sizes;
  there = c.seek_from.ensures.there;
  rest = next_levels c.args.follow.now.graph.now c.args.follow.now.kind.now c.args.follow.now.way c.args.used.now c.args.high c.loop-level.level c.loop-level.next c.count-stop.result
      c.loop-level.visited.nodes c.seek_from.new.visited.nodes c.loop-level-test.true c.count-stop.ensures (c.seek_from.ensures.nodes c.if-seek_from.false) ∙ c.loop-level.invariant.rest;
}

pub returns-then-seek_from-clause-met : goal.returns-then-seek_from-clause-met
returns-then-seek_from-clause-met c =
    let f = c.args.follow.now in
    let used = c.args.used.now in
    let mid = c.loop-level.visited.nodes in
    let more = c.args.high - (c.loop-level.level + 1) in
    let after = spread_each f.graph.now f.kind.now f.way used mid (drop c.loop-level.next mid) in
    let there : list_any (same_node c.args.end) after ≡ true = sym c.seek_from.ensures.met ∙ c.if-seek_from.true in
    let rest = next_levels f.graph.now f.kind.now f.way used c.args.high c.loop-level.level c.loop-level.next (length mid) mid after c.loop-level-test.true refl refl in
    sym (there_longer c.args.end after (spread_levels f.graph.now f.kind.now f.way used more (length mid) after) (longer_levels f.graph.now f.kind.now f.way used more (length mid) after) there)
    ∙ ap (list_any (same_node c.args.end)) (rest ∙ c.loop-level.invariant.rest)
