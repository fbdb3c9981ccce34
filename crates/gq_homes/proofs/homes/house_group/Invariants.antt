use Rattle.std.proofs.Common.{◌≤◌, ◌-◌, length}
use Rattle.gq_homes.specs.steps.Housing.{AreHoused}
use Rattle.gq_steps.specs.Moves.{run_of, steps_in}
use Rattle.gq_homes.proofs.homes.house_group.Given as goal

abbrev pub invariant-loop-step : goal.invariant-loop-step
invariant-loop-step l =
    (l.group.first ≤ l.step) × (l.step ≤ l.group.end) × (l.group.end ≤ length (steps_in l.plan_run))
    × AreHoused (run_of l.plan_run) l.groups l.number l.step l.housing.fillings.items l.housing.homes

abbrev pub decreases-loop-step : goal.decreases-loop-step
decreases-loop-step l = l.group.end - l.step
