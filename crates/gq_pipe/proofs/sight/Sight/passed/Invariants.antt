use Rattle.std.proofs.Common.{◌≡◌, ◌<◌, ◌≤◌, ◌-◌, ℕ, length, false}
use Rattle.gq_bits.specs.Places.{is_marked}
use Rattle.gq_masks.specs.Masks.{IsPart, next_end}
use Rattle.gq_pipe.specs.steps.Sights.{may_pass}
use Rattle.gq_steps.specs.Moves.{run_of}
use Rattle.gq_pipe.proofs.sight.Sight.passed.Given as goal

abbrev pub invariant-loop-depth : goal.invariant-loop-depth
invariant-loop-depth l = record {
  first : l.self.group.first < l.depth;
  part : l.self.far < length (run_of l.fn.plan_run).typed.nodes → IsPart (may_pass (run_of l.fn.plan_run) l.self.group l.self.far) l.self.mask.told (next_end l.self.mask) l.chosen;
  within : (k : ℕ) → l.high - l.low ≤ k → is_marked l.chosen k ≡ false;
  row : l.row ≡ l.fn.row;
  run : l.plan_run ≡ l.fn.plan_run;
}
