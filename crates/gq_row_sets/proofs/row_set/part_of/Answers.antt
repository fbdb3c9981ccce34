use Rattle.std.proofs.Common.{◌*◌}
use Rattle.gq_lanes.proofs.Kept.{part_is}
use Rattle.gq_row_sets.proofs.row_set.part_of.Goals as goal

pub returns : goal.returns
returns c = part_is c.args.rows.now (64 * c.args.index) c.min-count.result c.requires c.min-count.ensures
