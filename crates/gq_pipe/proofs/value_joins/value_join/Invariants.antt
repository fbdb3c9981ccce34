use Rattle.std.proofs.Common.{◌≡◌, ℕ, ◌<◌, true}
use Rattle.gq_steps.specs.Levels.{step_at}
use Rattle.gq_steps.specs.Moves.{run_of}
use Rattle.gq_pipe.specs.steps.Valued.{is_test}
use Rattle.gq_pipe.proofs.value_joins.value_join.Given as goal

abbrev pub invariant-loop-depth : goal.invariant-loop-depth
invariant-loop-depth l = record {
  behind : l.fn.group.first < l.depth;
  tests : (d : ℕ) → l.fn.group.first < d → d < l.depth → is_test (step_at (run_of l.plan_run) d) ≡ true;
}
