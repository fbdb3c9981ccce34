use Rattle.std.proofs.Common.{length}
use Rattle.gq_drain.proofs.testing.+all_admit.Given as goal

abbrev pub decreases-all_admit : goal.decreases-all_admit
decreases-all_admit g l = length l.tests.now
