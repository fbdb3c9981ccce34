use Rattle.std.proofs.Common.{length}
use Rattle.gq_filter.proofs.text_test.+is_within.Given as goal

-- the text is shorter at each call
abbrev pub decreases-is_within : goal.decreases-is_within
decreases-is_within l = length l.text.now
