use Rattle.std.proofs.Common.{◌≡◌, ◌++◌, drop}
use Rattle.gq_column.proofs.Column.build.Given as goal

abbrev pub invariant-loop-cell : goal.invariant-loop-cell
invariant-loop-cell l = l.growing ++ drop l.cell-index l.cells ≡ l.cells
