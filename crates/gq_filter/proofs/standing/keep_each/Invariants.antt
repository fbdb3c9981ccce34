use Rattle.std.specs.Prelude.{slice_index}
use Rattle.gq_filter.specs.LaneTests.{holds}
use Rattle.gq_filter.specs.steps.Standing.{standing_cells}
use Rattle.gq_filter.proofs.Trying.{IsTried}
use Rattle.gq_filter.proofs.standing.keep_each.Given as goal

abbrev pub invariant-loop-place : goal.invariant-loop-place
invariant-loop-place l = IsTried (λ k. holds (standing_cells l.fn.lanes (slice_index l.fn.rows k)) l.fn.test) l.fn.marks l.place l.marks
