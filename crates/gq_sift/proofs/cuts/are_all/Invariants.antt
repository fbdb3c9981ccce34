use Rattle.std.proofs.Common.{ℕ, ◌<◌}
use Rattle.gq_steps.specs.Moves.{run_of}
use Rattle.gq_sift.specs.steps.Asks.{IsAsked}
use Rattle.gq_sift.proofs.cuts.are_all.Given as goal

abbrev pub invariant-loop-depth : goal.invariant-loop-depth
invariant-loop-depth l = (d : ℕ) → l.fn.first < d → d < l.depth → IsAsked (run_of l.plan_run) l.ask d
