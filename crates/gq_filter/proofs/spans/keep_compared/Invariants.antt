use Rattle.std.proofs.Common.{◌+◌}
use Rattle.gq_column.specs.Cells.{cell_at}
use Rattle.gq_filter.specs.LaneTests.{passes}
use Rattle.gq_lanes.proofs.Kept.{Kept}
use Rattle.gq_lanes.specs.Tests.{compares}
use Rattle.gq_filter.proofs.spans.keep_compared.Given as goal

abbrev pub invariant-loop-index : goal.invariant-loop-index
invariant-loop-index l = Kept (λ k. passes (λ z. compares l.fn.op z l.fn.constant) (cell_at l.fn.column (l.fn.low + k))) l.index l.fn.marks l.marks
