use Rattle.std.proofs.Common.{drop, length}
use Rattle.std.specs.Prelude.{slice_index}
use Rattle.gq_filter.specs.steps.Kernels.{AreKept}
use Rattle.gq_filter.specs.RowLists.{cells_at}
use Rattle.gq_filter.proofs.row_lists.+keep_list.Given as goal

abbrev pub invariant-keep_all-loop-test : goal.invariant-keep_all-loop-test
invariant-keep_all-loop-test l = AreKept (λ k. cells_at l.feeds (slice_index l.rows k)) (length l.rows) l.fn.tests (drop l.test-index l.tests) l.fn.marks l.marks
