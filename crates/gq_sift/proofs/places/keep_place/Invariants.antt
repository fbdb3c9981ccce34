use Rattle.std.proofs.Common.{◌-◌}
use Rattle.gq_steps.specs.Moves.{run_of}
use Rattle.gq_steps.proofs.Going.{IsGoing}
use Rattle.gq_sift.proofs.places.keep_place.Given as goal

abbrev pub invariant-loop-step : goal.invariant-loop-step
invariant-loop-step l = IsGoing (run_of l.fn.plan_run) l.group l.place l.fn.row l.step l.row

abbrev pub decreases-loop-step : goal.decreases-loop-step
decreases-loop-step l = l.group.end - l.step
