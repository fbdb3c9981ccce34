use Rattle.std.proofs.Common.{◌≡◌, ◌<◌, ℕ, Some, get_or, length, pos}
use Rattle.gq_column.specs.Cells.{cell_at}
use Rattle.gq_cells.proofs.source.cells_at.Given as goal

abbrev pub invariant-loop-place : goal.invariant-loop-place
invariant-loop-place l = record {
  size : length l.out ≡ 64;
  written : (k : ℕ) → k < l.place → Some (get_or l.out k (pos 0)) ≡ cell_at l.column (get_or l.numbers k 0);
}
