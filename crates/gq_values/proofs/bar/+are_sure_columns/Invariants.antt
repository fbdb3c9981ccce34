use Rattle.std.proofs.Common.{length}
use Rattle.gq_values.proofs.bar.+are_sure_columns.Given as goal

abbrev pub decreases-are_sure_columns : goal.decreases-are_sure_columns
decreases-are_sure_columns l = length l.columns.now
