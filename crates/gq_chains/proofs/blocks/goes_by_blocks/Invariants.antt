use Rattle.std.proofs.Common.{◌≡◌, ◌<◌, ℕ, None}
use Rattle.gq_steps.specs.Levels.{step_at}
use Rattle.gq_steps.specs.Moves.{run_of}
use Rattle.gq_steps.specs.Tests.{test_of}
use Rattle.gq_chains.proofs.blocks.goes_by_blocks.Given as goal

abbrev pub invariant-loop-depth : goal.invariant-loop-depth
invariant-loop-depth l = (d : ℕ) → l.fn.group.first < d → d < l.depth → test_of (step_at (run_of l.plan_run) d) ≡ None
