use Rattle.std.proofs.Common.{length}
use Rattle.gq_exists.proofs.paths.+insert_behind.Given as goal

abbrev pub decreases-insert_behind : goal.decreases-insert_behind
decreases-insert_behind l = length l.key.now
