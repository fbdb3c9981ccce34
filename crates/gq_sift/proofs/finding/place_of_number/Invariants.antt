use Rattle.std.proofs.Common.{◌-◌}
use Rattle.gq_store.specs.Neighbours.{numbers}
use Rattle.gq_sift.proofs.Ascending.{IsNarrowed}
use Rattle.gq_sift.proofs.finding.place_of_number.Given as goal

abbrev pub invariant-loop-low : goal.invariant-loop-low
invariant-loop-low l = IsNarrowed (numbers l.graph l.part.table l.part.direction l.part.row) l.part.low l.part.high l.number l.low l.high

abbrev pub decreases-loop-low : goal.decreases-loop-low
decreases-loop-low l = l.high - l.low
