use Rattle.std.proofs.Common.{◌≡◌, map}
use Rattle.std.specs.Prelude.{filter}
use Rattle.gq_sample.specs.Sample.{has_home, lives_in, up_to}
use Rattle.gq_sample.proofs.rels.homes.Given as goal

abbrev pub invariant-loop-row : goal.invariant-loop-row
invariant-loop-row l = l.rels ≡ map (lives_in l.size) (filter has_home (up_to l.row))
