use Rattle.std.proofs.Common.{◌≡◌, drop}
use Rattle.std.specs.Cmp.Lexicographic.{pointwise}
use Rattle.gq_resolve.specs.MadeOf.{same_compare}
use Rattle.gq_resolve.proofs.sameness.same_compares.Given as goal

abbrev pub invariant-loop-at : goal.invariant-loop-at
invariant-loop-at l = pointwise same_compare (drop l.at l.terms) (drop l.at l.others) ≡ pointwise same_compare l.terms l.others
