use Rattle.std.proofs.Common.{length}
use Rattle.gq_exists.proofs.Taking.{Taken, left}
use Rattle.gq_exists.proofs.gathering.Gathering.take_each.Given as goal

abbrev pub invariant-choices : goal.invariant-choices
invariant-choices l = Taken l.typed l.chunk l.initial.self l.self l.found l.choice

abbrev pub decreases-choices : goal.decreases-choices
decreases-choices l = length (left l.chunk.groups.now l.found l.choice)
