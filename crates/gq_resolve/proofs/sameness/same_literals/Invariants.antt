use Rattle.std.proofs.Common.{◌≡◌, drop}
use Rattle.gq_resolve.specs.MadeOf.{same_literals}
use Rattle.gq_resolve.proofs.sameness.same_literals.Given as goal

abbrev pub invariant-loop-at : goal.invariant-loop-at
invariant-loop-at l = same_literals (drop l.at l.literals) (drop l.at l.others) ≡ same_literals l.literals l.others
