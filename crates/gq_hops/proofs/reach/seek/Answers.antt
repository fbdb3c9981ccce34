use Rattle.std.proofs.Common.{◌-◌, Some, ap, ◌∙◌}
use Rattle.std.specs.List.{list_any}
use Rattle.gq_marks.specs.Visiting.{Visiting}
use Rattle.gq_plan.specs.Assignments.{same_node}
use Rattle.gq_hops.specs.Levels.{ends_met, met_all, spread_levels, spread_over}
use Rattle.gq_hops.proofs.reach.seek.Goals as goal

pub returns-clause-met : goal.returns-clause-met
unfolding ends_met
returns-clause-met c =
    let f = c.args.follow.now in
    c.seek_on.ensures.met
    ∙ ap (λ ns. list_any (same_node c.args.end) (spread_levels f.graph.now f.kind.now f.way c.args.used.now (c.args.high - 1) 0 ns))
    (c.expand.ensures.nodes ∙ ap (λ (v : Visiting). spread_over f.graph.now f.way c.args.used.now v.nodes (met_all f.graph.now f.kind.now f.way (Some c.args.start))) c.clear.ensures)
