use Rattle.std.proofs.Common.{◌≡◌, ◌++◌, suc, drop}
use Rattle.gq_alternatives.specs.Matches.{pairs_with}
use Rattle.gq_reference.proofs.pairs.push_pairs.Given as goal

abbrev pub invariant-loop-pattern : goal.invariant-loop-pattern
invariant-loop-pattern l = l.pairs ++ pairs_with l.clause l.first (suc l.second) (drop l.pattern-index l.patterns) ≡ l.fn.pairs ++ pairs_with l.clause l.first (suc l.first) l.patterns
