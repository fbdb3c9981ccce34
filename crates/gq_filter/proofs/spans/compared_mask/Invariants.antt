use Rattle.std.proofs.Common.{◌+◌}
use Rattle.gq_column.specs.Cells.{cell_at}
use Rattle.gq_filter.specs.LaneTests.{passes}
use Rattle.gq_lanes.proofs.Bits.{AreBits}
use Rattle.gq_lanes.specs.Tests.{compares}
use Rattle.gq_filter.proofs.spans.compared_mask.Given as goal

abbrev pub invariant-loop-place : goal.invariant-loop-place
invariant-loop-place l = AreBits (λ i. passes (λ z. compares l.fn.op z l.fn.constant) (cell_at l.fn.column (l.fn.low + i))) l.place l.mask
