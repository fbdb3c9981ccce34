use Rattle.gq_plan.specs.Known.{set_of}
use Rattle.gq_plan.proofs.follow.Follow.closes.Goals as goal

pub returns-clause-bound : goal.returns-clause-bound
returns-clause-bound c = λ e i. record { nodes = set_of c.args.known.now.nodes; rels = c.insert.ensures i }
