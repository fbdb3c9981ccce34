use Rattle.std.proofs.Common.{◌≡◌, map}
use Rattle.std.specs.List.{range_with_len}
use Rattle.gq_base.specs.Valid.{row_count}
use Rattle.gq_execute.proofs.planning.node_counts.Given as goal

abbrev pub invariant-tables : goal.invariant-tables
invariant-tables l = l.counts ≡ map (row_count l.graph.nodes) (range_with_len 0 l.table)
