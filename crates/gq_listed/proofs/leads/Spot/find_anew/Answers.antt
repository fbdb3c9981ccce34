use Rattle.std.proofs.Common.{subst}
use Rattle.gq_plan.specs.Assignments.{row_of}
use Rattle.gq_listed.specs.Finding.{IsFound}
use Rattle.gq_listed.proofs.leads.Spot.find_anew.Goals as goal

pub returns : goal.returns
returns c = subst (λ t. IsFound c.args.self.now.graph.now c.args.way (row_of t) c.find.result) c.row.ensures c.find.ensures
