use Rattle.std.proofs.Common.{length}
use Rattle.gq_exists.proofs.key_set.+run_each.Given as goal

abbrev pub decreases-run_each : goal.decreases-run_each
decreases-run_each l = length l.plans.now
