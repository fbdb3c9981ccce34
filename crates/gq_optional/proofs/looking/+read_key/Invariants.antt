use Rattle.std.proofs.Common.{length}
use Rattle.gq_optional.proofs.looking.+read_key.Given as goal

abbrev pub decreases-read_key : goal.decreases-read_key
decreases-read_key l = length l.shared.now
