use Rattle.std.proofs.Common.{◌≡◌, suc, ◌-◌, length}
use Rattle.gq_base.specs.declared.NodeId.{NodeId}
use Rattle.gq_exists.specs.steps.Rows.{blocks_of, marked_at}
use Rattle.gq_exists.proofs.rows.reach_table.Given as goal

abbrev pub invariant-tables : goal.invariant-tables
invariant-tables l = (n : NodeId) → marked_at (blocks_of l.tables.items) n ≡ marked_at (blocks_of l.initial.tables.items) n

abbrev pub decreases-tables : goal.decreases-tables
decreases-tables l = suc l.table - length l.tables.items
