use Rattle.std.proofs.Common.{◌≡◌, ◌++◌, map}
use Rattle.gq_sample.specs.Sample.{knows, up_to}
use Rattle.gq_sample.proofs.rels.push_known.Given as goal

abbrev pub invariant-loop-before : goal.invariant-loop-before
invariant-loop-before l = l.rels ≡ l.initial.rels ++ map (knows l.size l.person) (up_to l.before)
