use Rattle.std.proofs.Common.{◌≡◌, ◌++◌, take, flat_map, slice_get}
use Rattle.gq_law_reaches.specs.Core.{right_at}
use Rattle.gq_core.proofs.choosing.push_rights.Given as goal

abbrev pub invariant-loop-number : goal.invariant-loop-number
invariant-loop-number l = l.nodes ≡ l.fn.nodes ++ flat_map (λ y. right_at (slice_get l.rels y)) (take l.number-index l.numbers)
