use Rattle.std.proofs.Common.{◌≡◌, map}
use Rattle.std.specs.List.{range_with_len}
use Rattle.gq_store.specs.Places.{number_at}
use Rattle.gq_store.proofs.links.numbers_by_place.Given as goal

abbrev pub invariant-loop-place : goal.invariant-loop-place
invariant-loop-place l = l.numbers.items ≡ map (λ place. number_at l.of.value l.rel place) (range_with_len 0 l.place)
