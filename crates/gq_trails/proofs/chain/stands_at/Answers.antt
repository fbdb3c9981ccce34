use Rattle.std.proofs.Common.{ap}
use Rattle.gq_trails.specs.declared.reached.Ends.{Ends}
use Rattle.gq_trails.proofs.Placed.{read_at}
use Rattle.gq_trails.proofs.chain.stands_at.Goals as goal

pub returns : goal.returns
returns c e rest is = ap (λ (x : Ends). x.stands) (read_at c.args.at c.args.ends.now.items c.index.result.now e rest is c.index.ensures)
