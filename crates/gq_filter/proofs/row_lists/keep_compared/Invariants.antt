use Rattle.std.specs.Prelude.{slice_index}
use Rattle.gq_column.specs.Cells.{cell_at}
use Rattle.gq_filter.specs.LaneTests.{passes}
use Rattle.gq_lanes.specs.Tests.{compares}
use Rattle.gq_filter.proofs.Trying.{IsTried}
use Rattle.gq_filter.proofs.row_lists.keep_compared.Given as goal

abbrev pub invariant-loop-place : goal.invariant-loop-place
invariant-loop-place l = IsTried (λ k. passes (λ z. compares l.fn.op z l.fn.constant) (cell_at l.fn.column (slice_index l.fn.rows k))) l.fn.marks l.place l.marks
