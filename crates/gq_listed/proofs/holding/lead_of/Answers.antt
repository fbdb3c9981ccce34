use Rattle.std.proofs.Common.{subst, sym}
use Rattle.gq_listed.specs.Leads.{IsLedBy}
use Rattle.gq_listed.proofs.holding.lead_of.Goals as goal

pub returns-in-Node : goal.returns-in-Node
returns-in-Node c = subst (λ w. IsLedBy c.args.graph.now c.args.typed.now c.args.chunk.now w c.home_of.result) (sym c.in-Node.is) (c.home_of.ensures c.args.graph.now)

pub returns-in-Rel : goal.returns-in-Rel
returns-in-Rel c = subst (λ w. IsLedBy c.args.graph.now c.args.typed.now c.args.chunk.now w c.edge_of.result) (sym c.in-Rel.is) (c.edge_of.ensures c.args.graph.now c.args.chunk.now)
