use Rattle.gq_trails.proofs.Beginning.{row_reached}
use Rattle.gq_trails.proofs.trails.Trails.base.Goals as goal

pub returns-clause-row : goal.returns-clause-row
returns-clause-row c = row_reached c.self.inside c.args.self.now c.self.view_is c.self.invariant c.requires
