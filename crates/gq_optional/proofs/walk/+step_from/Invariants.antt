use Rattle.std.proofs.Common.{◌-◌, length}
use Rattle.gq_optional.proofs.walk.+step_from.Given as goal

abbrev pub decreases-step_from : goal.decreases-step_from
decreases-step_from l = length l.levels.now - l.depth
