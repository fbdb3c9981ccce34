use Rattle.std.proofs.Common.{◌≡◌, take, filter}
use Rattle.gq_law_cuts.specs.Typing.{stays_in}
use Rattle.gq_core.proofs.typing.staying.Given as goal

abbrev pub invariant-loop-conjunct : goal.invariant-loop-conjunct
invariant-loop-conjunct l = l.copies ≡ filter (stays_in l.count) (take l.conjunct-index l.conjuncts)
