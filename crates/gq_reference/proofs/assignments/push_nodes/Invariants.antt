use Rattle.std.proofs.Common.{◌≡◌, ◌++◌, map}
use Rattle.std.specs.List.{range_with_len}
use Rattle.gq_reference.proofs.assignments.push_nodes.Given as goal

abbrev pub invariant-loop-row : goal.invariant-loop-row
invariant-loop-row l = l.nodes ≡ l.fn.nodes ++ map (λ row. record { table = l.table; row = row }) (range_with_len 0 l.row)
