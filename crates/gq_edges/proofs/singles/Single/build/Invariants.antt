use Rattle.gq_edges.proofs.Seen.{Seen}
use Rattle.gq_edges.proofs.singles.Single.build.Given as goal

abbrev pub invariant-loop-i : goal.invariant-loop-i
invariant-loop-i l = Seen l.vertices l.i l.numbers.items l.targets.items l.from l.to
