use Rattle.std.proofs.Common.{length}
use Rattle.gq_optional.proofs.gathering.+list_each.Given as goal

abbrev pub decreases-list_each : goal.decreases-list_each
decreases-list_each l = length l.plans.now
