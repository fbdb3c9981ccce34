use Rattle.std.proofs.Common.{◌≡◌, map}
use Rattle.std.specs.List.{range_with_len}
use Rattle.gq_sample.specs.Sample.{city}
use Rattle.gq_sample.proofs.nodes.cities.Given as goal

abbrev pub invariant-loop-row : goal.invariant-loop-row
invariant-loop-row l = l.rows ≡ map city (range_with_len 0 l.row)
