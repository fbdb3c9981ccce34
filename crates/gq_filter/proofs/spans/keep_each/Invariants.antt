use Rattle.std.proofs.Common.{◌+◌}
use Rattle.gq_filter.specs.LaneTests.{holds}
use Rattle.gq_filter.specs.RowLists.{cells_at}
use Rattle.gq_filter.proofs.Trying.{IsTried}
use Rattle.gq_filter.proofs.spans.keep_each.Given as goal

abbrev pub invariant-loop-place : goal.invariant-loop-place
invariant-loop-place l = IsTried (λ k. holds (cells_at l.fn.feeds (l.fn.low + k)) l.fn.test) l.fn.marks l.place l.marks
