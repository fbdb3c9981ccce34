use Rattle.std.proofs.Common.{length}
use Rattle.gq_trails.proofs.rows.+walked_count.Given as goal

abbrev pub decreases-walked_count : goal.decreases-walked_count
decreases-walked_count l = length l.parts.now
