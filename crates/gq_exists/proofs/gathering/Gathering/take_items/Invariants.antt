use Rattle.std.proofs.Common.{length}
use Rattle.gq_exists.proofs.Choosing.{Visited, waiting}
use Rattle.gq_exists.proofs.gathering.Gathering.take_items.Given as goal

abbrev pub invariant-positions : goal.invariant-positions
invariant-positions l = Visited l.table l.here l.initial.self l.self l.next

abbrev pub decreases-positions : goal.decreases-positions
decreases-positions l = length (waiting l.here l.next)
