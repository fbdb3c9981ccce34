use Rattle.std.proofs.Common.{length}
use Rattle.gq_values.proofs.bar.+rank_of_bar.Given as goal

abbrev pub decreases-rank_of_bar : goal.decreases-rank_of_bar
decreases-rank_of_bar g l = length l.sorts.now
