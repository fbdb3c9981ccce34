use Rattle.std.proofs.Common.{drop, ◌+◌}
use Rattle.gq_filter.specs.steps.Kernels.{AreKept}
use Rattle.gq_filter.specs.RowLists.{cells_at}
use Rattle.gq_filter.proofs.spans.+keep_span.Given as goal

abbrev pub invariant-keep_all-loop-test : goal.invariant-keep_all-loop-test
invariant-keep_all-loop-test l = AreKept (λ k. cells_at l.feeds (l.low + k)) l.count l.fn.tests (drop l.test-index l.tests) l.fn.marks l.marks
