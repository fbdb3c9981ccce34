use Rattle.std.proofs.Common.{length}
use Rattle.gq_exists.proofs.paths.+is_found_at.Given as goal

abbrev pub decreases-is_found_at : goal.decreases-is_found_at
decreases-is_found_at t l = length l.nodes.now
