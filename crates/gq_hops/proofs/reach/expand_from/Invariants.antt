use Rattle.gq_hops.proofs.Rounds.{IsRound}
use Rattle.gq_hops.proofs.reach.expand_from.Given as goal

abbrev pub invariant-loop-place : goal.invariant-loop-place
invariant-loop-place l = IsRound l.follow l.used l.initial.visited l.next l.visited l.place
