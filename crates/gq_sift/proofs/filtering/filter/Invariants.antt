use Rattle.std.proofs.Common.{◌≡◌}
use Rattle.gq_steps.specs.Moves.{run_of}
use Rattle.gq_sift.proofs.Scanned.{IsFiltering}
use Rattle.gq_sift.proofs.filtering.filter.Given as goal

abbrev pub invariant-loop-depth : goal.invariant-loop-depth
invariant-loop-depth l = IsFiltering (run_of l.fn.plan_run) l.fn.group l.node l.first l.count l.fn.row l.depth l.marks × (l.row ≡ l.fn.row) × (l.plan_run ≡ l.fn.plan_run)
