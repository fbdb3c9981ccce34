use Rattle.std.proofs.Common.{length}
use Rattle.gq_classes.proofs.classes.+append_row.Given as goal

abbrev pub decreases-append_row : goal.decreases-append_row
decreases-append_row l = length l.levels.now
