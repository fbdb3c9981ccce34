use Rattle.std.proofs.Common.{◌≡◌, ◌++◌, drop, filter, suc}
use Rattle.gq_alternatives.specs.Alternatives.{one_table}
use Rattle.gq_alternatives.specs.Matches.{pairs_with}
use Rattle.gq_alternatives.proofs.typing.push_pairs.Given as goal

abbrev pub invariant-loop-pattern : goal.invariant-loop-pattern
invariant-loop-pattern l =
    l.pairs ++ filter (one_table l.readings) (pairs_with l.clause l.first l.second (drop l.pattern-index l.rest))
    ≡ l.fn.pairs ++ filter (one_table l.readings) (pairs_with l.clause l.first (suc l.first) l.rest)
