use Rattle.std.proofs.Common.{arith}
use Rattle.gq_row_sets.proofs.Pieces.{length-first_rows}
use Rattle.gq_row_sets.proofs.row_set.RowSet.next_end.Goals as goal

pub returns-clause-end : goal.returns-clause-end
returns-clause-end c =
    let long = length-first_rows c.self.inside.told c.self.inside.pieces.items in
    rw (← c.self.view_is) (omega (arith, long, c.self.invariant, c.min.ensures))

pub returns-clause-ahead : goal.returns-clause-ahead
returns-clause-ahead c =
    let long = length-first_rows c.self.inside.told c.self.inside.pieces.items in
    rw (← c.self.view_is) (omega (arith, long, c.min.ensures))
