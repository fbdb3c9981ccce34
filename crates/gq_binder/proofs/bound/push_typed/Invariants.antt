use Rattle.std.proofs.Common.{◌≡◌, ◌++◌, map, take}
use Rattle.gq_alternatives.specs.Alternatives.{typed_of}
use Rattle.gq_binder.proofs.bound.push_typed.Given as goal

abbrev pub invariant-loop-choice : goal.invariant-loop-choice
invariant-loop-choice l = l.all ≡ l.fn.all ++ map (typed_of l.catalog l.pattern l.entries l.conjuncts) (take l.choice-index l.choices)
