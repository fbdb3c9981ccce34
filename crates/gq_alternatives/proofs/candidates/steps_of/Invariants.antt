use Rattle.std.proofs.Common.{◌≡◌, take}
use Rattle.gq_alternatives.specs.Candidates.{steps_of}
use Rattle.gq_alternatives.proofs.candidates.steps_of.Given as goal

abbrev pub invariant-loop-pattern : goal.invariant-loop-pattern
invariant-loop-pattern l = l.steps ≡ steps_of l.catalog (take l.pattern-index l.patterns)
