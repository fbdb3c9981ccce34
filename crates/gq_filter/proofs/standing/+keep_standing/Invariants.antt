use Rattle.std.proofs.Common.{drop, length}
use Rattle.std.specs.Prelude.{slice_index}
use Rattle.gq_filter.specs.steps.Kernels.{AreKept}
use Rattle.gq_filter.specs.steps.Standing.{standing_cells}
use Rattle.gq_filter.proofs.standing.+keep_standing.Given as goal

abbrev pub invariant-keep_all-loop-test : goal.invariant-keep_all-loop-test
invariant-keep_all-loop-test l = AreKept (λ k. standing_cells l.lanes (slice_index l.rows k)) (length l.rows) l.fn.tests (drop l.test-index l.tests) l.fn.marks l.marks
