use Rattle.std.proofs.Common.{length}
use Rattle.gq_exists.proofs.paths.+is_found.Given as goal

abbrev pub decreases-is_found : goal.decreases-is_found
decreases-is_found l = length l.key.now
