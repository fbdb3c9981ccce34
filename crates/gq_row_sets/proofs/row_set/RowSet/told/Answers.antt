use Rattle.std.proofs.Common.{sym}
use Rattle.gq_row_sets.proofs.Pieces.{length-first_rows}
use Rattle.gq_row_sets.proofs.row_set.RowSet.told.Goals as goal

pub returns : goal.returns
returns c = rw (← c.self.view_is) (sym (length-first_rows c.self.inside.told c.self.inside.pieces.items))
