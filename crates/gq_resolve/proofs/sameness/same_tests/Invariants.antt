use Rattle.std.proofs.Common.{◌≡◌, drop}
use Rattle.std.specs.Cmp.Lexicographic.{pointwise}
use Rattle.gq_resolve.specs.MadeOf.{same_test}
use Rattle.gq_resolve.proofs.sameness.same_tests.Given as goal

abbrev pub invariant-loop-at : goal.invariant-loop-at
invariant-loop-at l = pointwise same_test (drop l.at l.testers) (drop l.at l.others) ≡ pointwise same_test l.testers l.others
