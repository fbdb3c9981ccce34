use Rattle.std.proofs.Common.{◌≡◌, ◌<◌, drop, sym, ap, ◌∙◌, subst}
use Rattle.std.specs.List.{list_any}
use Rattle.gq_plan.specs.Assignments.{same_node}
use Rattle.gq_hops.specs.Levels.{spread_each}
use Rattle.gq_hops.proofs.Reaching.{longer_each, there_longer}
use Rattle.gq_hops.proofs.Rounds.{round_next}
use Rattle.gq_hops.proofs.reach.seek_from.Goals as goal

pub loop-place-preserved : goal.loop-place-preserved
loop-place-preserved c =
    round_next c.args.follow.now c.args.used.now c.args.visited.now c.args.next c.loop-place.place c.loop-place.visited c.expand.new.visited c.node-at.result c.loop-place.invariant
    (subst (λ k. c.loop-place.place < k) c.count-stop.ensures c.loop-place-test.true) c.node-at.ensures c.expand.ensures.sizes c.expand.ensures.there c.expand.ensures.nodes

pub returns-then-has-clause-met : goal.returns-then-has-clause-met
returns-then-has-clause-met c =
    let g = c.args.follow.now.graph.now in
    let kind = c.args.follow.now.kind.now in
    let way = c.args.follow.now.way in
    let used = c.args.used.now in
    let end = c.args.end in
    let mid = c.loop-place.visited.nodes in
    let rest = drop c.loop-place.place c.args.visited.now.nodes in
    sym (there_longer end mid (spread_each g kind way used mid rest) (longer_each g kind way used mid rest) (sym c.has.ensures.met ∙ c.if-has.true))
    ∙ ap (list_any (same_node end)) c.loop-place.invariant.rest
