use Rattle.std.proofs.Common.{◌≡◌, length}
use Rattle.gq_filter.specs.steps.ReadCells.{AreFilled}
use Rattle.gq_filter.proofs.read_cells.read_cells.Given as goal

abbrev pub invariant-loop-lane : goal.invariant-loop-lane
invariant-loop-lane g l = record {
  whole : length l.cells ≡ 4;
  filled : AreFilled l.graph (g.R.Assigned.assignment l.row) l.feeds l.lane l.cells;
}
