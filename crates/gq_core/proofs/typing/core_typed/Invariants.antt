use Rattle.std.proofs.Common.{◌≡◌, take, map}
use Rattle.gq_law_cuts.specs.Typing.{core_typed, stays_in}
use Rattle.gq_core.proofs.typing.core_typed.Given as goal

abbrev pub invariant-loop-choice : goal.invariant-loop-choice
invariant-loop-choice l = l.all ≡ map (core_typed l.catalog l.pattern (stays_in l.count) l.entries l.conjuncts) (take l.choice-index l.choices)
