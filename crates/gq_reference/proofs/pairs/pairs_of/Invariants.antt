use Rattle.std.proofs.Common.{◌≡◌, ◌++◌, drop}
use Rattle.gq_alternatives.specs.Matches.{pairs_from}
use Rattle.gq_reference.proofs.pairs.pairs_of.Given as goal

abbrev pub invariant-loop-at : goal.invariant-loop-at
invariant-loop-at l = l.pairs ++ pairs_from l.first (drop l.at l.patterns) ≡ pairs_from 0 l.patterns
