use Rattle.gq_edges.proofs.Ordered.{Placed}
use Rattle.gq_edges.proofs.paged.places_of.Given as goal

abbrev pub invariant-loop-place : goal.invariant-loop-place
invariant-loop-place l = Placed l.place l.order l.places.items
