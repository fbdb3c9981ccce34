use Rattle.std.proofs.Common.{◌≡◌, map}
use Rattle.std.specs.List.{range_with_len}
use Rattle.gq_sample.specs.Sample.{person}
use Rattle.gq_sample.proofs.nodes.persons.Given as goal

abbrev pub invariant-loop-row : goal.invariant-loop-row
invariant-loop-row l = l.rows ≡ map person (range_with_len 1 l.row)
