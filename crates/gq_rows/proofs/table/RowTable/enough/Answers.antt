use Rattle.std.proofs.Common.{◌∙◌, ap, arith}
use Rattle.gq_kept.specs.Tables.{is_full_table}
use Rattle.gq_rows.proofs.table.RowTable.enough.Goals as goal

pub returns : goal.returns
returns c = c.is_full.ensures c.self.inside.graph.now c.self.inside.bound.now c.self.invariant.sink (omega (arith, c.count.ensures)) ∙ ap is_full_table c.self.view_is
