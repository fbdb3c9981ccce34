use Rattle.std.proofs.Common.{map, min, length, ◌*◌}
use Rattle.gq_column.specs.Cells.{cell_at}
use Rattle.gq_column.proofs.Filled.{Filled}
use Rattle.gq_column.proofs.Column.gather_by_rank.Given as goal

abbrev pub invariant-loop-index : goal.invariant-loop-index
invariant-loop-index l = Filled (map (λ row. cell_at l.self row) l.rows) (min (length l.rows) (64 * l.index)) l.initial.out l.out l.known
