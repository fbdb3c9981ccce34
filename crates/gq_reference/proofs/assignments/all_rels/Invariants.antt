use Rattle.std.proofs.Common.{◌≡◌, flat_map}
use Rattle.std.specs.List.{range_with_len}
use Rattle.gq_plan.specs.Assignments.{rels_of}
use Rattle.gq_reference.proofs.assignments.all_rels.Given as goal

abbrev pub invariant-loop-table : goal.invariant-loop-table
invariant-loop-table l = l.rels ≡ flat_map (rels_of l.graph) (range_with_len 0 l.table)
