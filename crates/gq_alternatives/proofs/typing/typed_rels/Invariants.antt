use Rattle.std.proofs.Common.{◌≡◌, ◌++◌, length, drop}
use Rattle.gq_alternatives.specs.Alternatives.{typed_rels}
use Rattle.gq_alternatives.proofs.typing.typed_rels.Given as goal

abbrev pub invariant-loop-pattern : goal.invariant-loop-pattern
invariant-loop-pattern l = l.rels ++ typed_rels (drop (length l.yielded) l.patterns) (drop (length l.yielded) l.readings) ≡ typed_rels l.patterns l.readings
