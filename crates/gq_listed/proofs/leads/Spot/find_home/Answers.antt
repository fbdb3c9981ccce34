use Rattle.std.proofs.Common.{subst, sym}
use Rattle.gq_listed.specs.Finding.{IsFound}
use Rattle.gq_listed.specs.Leads.{HasTable, here_at}
use Rattle.gq_listed.proofs.Leading.{node_has}
use Rattle.gq_listed.proofs.leads.Spot.find_home.Goals as goal

pub returns-in-Node : goal.returns-in-Node
returns-in-Node c =
    let s = c.args.self.now in
    let r = c.in-Node.range in
    let has = subst (HasTable s.typed.now) c.in-Node.is c.requires.table in
    subst (λ w. IsFound s.graph.now w (here_at s) c.found_within.result) (sym c.in-Node.is)
    (c.found_within.ensures s.graph.now (here_at s) (node_has s.graph.now s.typed.now s.chunk.now s.positions.now r.variable r.table c.node_at-row.result has c.node_at-row.ensures))
