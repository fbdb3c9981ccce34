use Rattle.gq_trails.proofs.Beginning.{row_reached}
use Rattle.gq_trails.proofs.trails.Trails.row.Goals as goal

pub returns : goal.returns
returns c = row_reached c.self.inside c.args.self.now c.self.view_is c.self.invariant c.requires
