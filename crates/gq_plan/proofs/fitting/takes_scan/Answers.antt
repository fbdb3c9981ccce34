use Rattle.gq_plan.specs.Known.{set_of}
use Rattle.gq_plan.proofs.fitting.takes_scan.Goals as goal

pub returns-clause-bound : goal.returns-clause-bound
returns-clause-bound c = λ e i. record { nodes = c.insert.ensures i; rels = set_of c.args.known.now.rels }
