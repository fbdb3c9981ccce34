use Rattle.std.proofs.Common.{ℕ, ◌<◌}
use Rattle.gq_steps.specs.Moves.{run_of}
use Rattle.gq_steps.specs.Tests.{GoesOn}
use Rattle.gq_chains.proofs.chain.are_chained.Given as goal

abbrev pub invariant-loop-depth : goal.invariant-loop-depth
invariant-loop-depth l = (d : ℕ) → l.fn.first < d → d < l.depth → GoesOn (run_of l.plan_run) l.fn.first d
