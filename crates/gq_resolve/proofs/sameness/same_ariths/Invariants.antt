use Rattle.std.proofs.Common.{◌≡◌, drop}
use Rattle.std.specs.Cmp.Lexicographic.{pointwise}
use Rattle.gq_resolve.specs.MadeOf.{same_arith}
use Rattle.gq_resolve.proofs.sameness.same_ariths.Given as goal

abbrev pub invariant-loop-at : goal.invariant-loop-at
invariant-loop-at l = pointwise same_arith (drop l.at l.terms) (drop l.at l.others) ≡ pointwise same_arith l.terms l.others
