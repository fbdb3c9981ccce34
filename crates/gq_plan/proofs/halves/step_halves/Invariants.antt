use Rattle.std.proofs.Common.{◌≡◌, ◌++◌, drop, map}
use Rattle.gq_plan.specs.Halves.{numbered_halves}
use Rattle.gq_plan.specs.Plans.{step_of}
use Rattle.gq_plan.proofs.halves.step_halves.Given as goal

abbrev pub invariant-loop-number : goal.invariant-loop-number
invariant-loop-number l = l.all ++ numbered_halves l.number (map step_of (drop l.number l.steps)) ≡ numbered_halves 0 (map step_of l.steps)
