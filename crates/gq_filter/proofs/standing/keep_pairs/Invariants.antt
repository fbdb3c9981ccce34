use Rattle.std.specs.Prelude.{slice_index}
use Rattle.gq_column.specs.Cells.{cell_at}
use Rattle.gq_filter.specs.LaneTests.{pass}
use Rattle.gq_lanes.specs.Tests.{compares}
use Rattle.gq_filter.proofs.Trying.{IsTried}
use Rattle.gq_filter.proofs.standing.keep_pairs.Given as goal

abbrev pub invariant-loop-place : goal.invariant-loop-place
invariant-loop-place l = IsTried (λ k. pass (compares l.fn.op) (cell_at l.fn.left (slice_index l.fn.rows k)) (cell_at l.fn.right (slice_index l.fn.rows k))) l.fn.marks l.place l.marks
