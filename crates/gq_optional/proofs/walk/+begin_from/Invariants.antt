use Rattle.std.proofs.Common.{◌-◌, length}
use Rattle.gq_optional.proofs.walk.+begin_from.Given as goal

abbrev pub decreases-begin_from : goal.decreases-begin_from
decreases-begin_from l = length l.levels.now - l.depth
