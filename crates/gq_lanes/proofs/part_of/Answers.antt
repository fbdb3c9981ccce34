use Rattle.gq_lanes.proofs.Kept.{part_is}
use Rattle.std.proofs.Common.{◌*◌}
use Rattle.gq_lanes.proofs.part_of.Goals as goal

pub returns : goal.returns
returns g c = part_is c.args.items.now (64 * c.args.index) c.min-count.result c.requires c.min-count.ensures
