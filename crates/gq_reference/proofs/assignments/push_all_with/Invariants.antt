use Rattle.std.proofs.Common.{◌≡◌, ◌∷◌, ◌++◌, map, take}
use Rattle.gq_reference.proofs.assignments.push_all_with.Given as goal

abbrev pub invariant-loop-tuple : goal.invariant-loop-tuple
invariant-loop-tuple g l = l.longer ≡ l.fn.longer ++ map (λ t. l.first ∷ t) (take l.tuple-index l.tuples)
