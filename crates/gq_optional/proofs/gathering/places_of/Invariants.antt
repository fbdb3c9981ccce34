use Rattle.std.proofs.Common.{◌≡◌, ◌++◌, drop}
use Rattle.gq_optional.specs.steps.Looked.{places_of}
use Rattle.gq_optional.proofs.gathering.places_of.Given as goal

abbrev pub invariant-places : goal.invariant-places
invariant-places l = l.places.items ++ places_of l.place (drop l.place l.shared) ≡ places_of 0 l.shared
