use Rattle.std.proofs.Common.{◌≡◌, ◌<◌, ◌+◌, ◌*◌, ℕ, Some, get_or}
use Rattle.std.specs.Prelude.{slice_get}
use Rattle.gq_cells.specs.steps.Inner.{cell_of}
use Rattle.gq_cells.proofs.cells.numbers_of.Given as goal

abbrev pub invariant-loop-place : goal.invariant-loop-place
invariant-loop-place l = record {
  copied : (k : ℕ) → k < l.place → slice_get l.cells (l.first + k * l.step) ≡ Some (cell_of l.source (get_or l.numbers k 0));
}
