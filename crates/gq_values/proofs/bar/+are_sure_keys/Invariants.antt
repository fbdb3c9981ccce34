use Rattle.std.proofs.Common.{length}
use Rattle.gq_values.proofs.bar.+are_sure_keys.Given as goal

abbrev pub decreases-are_sure_keys : goal.decreases-are_sure_keys
decreases-are_sure_keys l = length l.keys.now
