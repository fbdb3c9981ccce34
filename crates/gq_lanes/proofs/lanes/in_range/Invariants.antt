use Rattle.std.proofs.Common.{ℕ, ◌<◌, w64, FitsSigned}
use Rattle.gq_lanes.specs.Tests.{cell}
use Rattle.gq_lanes.proofs.lanes.in_range.Given as goal

abbrev pub invariant-loop-cell : goal.invariant-loop-cell
invariant-loop-cell l = (k : ℕ) → k < l.cell-index → FitsSigned w64 (cell l.cells k)
