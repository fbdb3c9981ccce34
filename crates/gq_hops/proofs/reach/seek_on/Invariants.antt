use Rattle.gq_hops.proofs.Rounds.{AreRounds}
use Rattle.gq_hops.proofs.reach.seek_on.Given as goal

abbrev pub invariant-loop-level : goal.invariant-loop-level
invariant-loop-level l = AreRounds l.follow l.used l.initial.visited l.high l.level l.next l.visited
