use Rattle.std.proofs.Common.{◌≡◌, ◌++◌, drop}
use Rattle.gq_alternatives.specs.Alternatives.{late_from}
use Rattle.gq_alternatives.proofs.typing.late_of.Given as goal

abbrev pub invariant-loop-conjunct : goal.invariant-loop-conjunct
invariant-loop-conjunct l = l.late ++ late_from l.kinds l.number (drop l.conjunct-index l.conjuncts) ≡ late_from l.kinds 0 l.conjuncts
