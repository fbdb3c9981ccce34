use Rattle.std.proofs.Common.{◌≡◌, flat_map}
use Rattle.gq_sample.specs.Sample.{known_by, up_to}
use Rattle.gq_sample.proofs.rels.knows.Given as goal

abbrev pub invariant-loop-row : goal.invariant-loop-row
invariant-loop-row l = l.rels ≡ flat_map (known_by l.size) (up_to l.row)
