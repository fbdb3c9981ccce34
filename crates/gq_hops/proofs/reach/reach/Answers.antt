use Rattle.std.proofs.Common.{◌-◌, Some, ap, ◌∙◌}
use Rattle.gq_marks.specs.Visiting.{Visiting}
use Rattle.gq_hops.specs.Levels.{ends_met, met_all, spread_levels, spread_over}
use Rattle.gq_hops.proofs.reach.reach.Goals as goal

pub returns-clause-nodes : goal.returns-clause-nodes
unfolding ends_met
returns-clause-nodes c =
    let f = c.args.follow.now in
    c.reach_on.ensures.nodes
    ∙ ap (spread_levels f.graph.now f.kind.now f.way c.args.used.now (c.args.high - 1) 0)
    (c.expand.ensures.nodes ∙ ap (λ (v : Visiting). spread_over f.graph.now f.way c.args.used.now v.nodes (met_all f.graph.now f.kind.now f.way (Some c.args.start))) c.clear.ensures)
