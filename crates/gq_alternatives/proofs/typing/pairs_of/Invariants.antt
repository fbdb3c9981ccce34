use Rattle.std.proofs.Common.{◌≡◌, ◌++◌, drop, filter}
use Rattle.gq_alternatives.specs.Alternatives.{one_table}
use Rattle.gq_alternatives.specs.Matches.{pairs_from}
use Rattle.gq_alternatives.proofs.typing.pairs_of.Given as goal

abbrev pub invariant-loop-at : goal.invariant-loop-at
invariant-loop-at l = l.pairs ++ filter (one_table l.readings) (pairs_from l.first (drop l.at l.patterns)) ≡ filter (one_table l.readings) (pairs_from 0 l.patterns)
