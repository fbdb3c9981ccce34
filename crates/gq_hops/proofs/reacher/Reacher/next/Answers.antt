use Rattle.std.proofs.Common.{◌∙◌, drop, ap}
use Rattle.gq_hops.specs.Reaching.{Reaching}
use Rattle.gq_hops.proofs.Reaching.{drop_more}
use Rattle.gq_hops.proofs.reacher.Reacher.next.Goals as goal

pub returns-clause-rest : goal.returns-clause-rest
returns-clause-rest c =
    let m = c.self.inside in
    (λ i. record { graph = m.follow.graph.now; kind = m.follow.kind.now; way = m.follow.way; high = m.high; owed = drop_more m.place m.visited.nodes i })
    ∙ ap (λ (r : Reaching). record r { owed = drop 1 r.owed }) c.self.view_is
