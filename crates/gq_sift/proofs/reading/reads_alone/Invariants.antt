use Rattle.std.proofs.Common.{◌≡◌, ℕ, ◌<◌, Some, true}
use Rattle.std.specs.Prelude.{slice_get}
use Rattle.gq_plan.specs.Covers.{test_bound}
use Rattle.gq_plan.specs.Known.{known_of}
use Rattle.gq_plan.specs.Meaning.{holds}
use Rattle.gq_steps.specs.Tests.{test_of}
use Rattle.gq_steps.specs.Levels.{step_at}
use Rattle.gq_steps.specs.Moves.{run_of}
use Rattle.gq_sift.proofs.reading.reads_alone.Given as goal

abbrev pub invariant-loop-depth : goal.invariant-loop-depth
invariant-loop-depth l = (d i : ℕ) → l.fn.group.first < d → d < l.depth → test_of (step_at (run_of l.plan_run) d) ≡ Some i → holds (test_bound (known_of l.reads)) (slice_get l.plan_run.typed.now.tests i) ≡ true
