use Rattle.std.proofs.Common.{◌≡◌, ◌∷◌, map, flat_map, take}
use Rattle.gq_reference.proofs.assignments.longer.Given as goal

abbrev pub invariant-loop-item : goal.invariant-loop-item
invariant-loop-item g l = l.longer ≡ flat_map (λ x. map (λ t. x ∷ t) l.tuples) (take l.item-index l.items)
