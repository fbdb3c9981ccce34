use Rattle.std.proofs.Common.{ℕ, ◌<◌}
use Rattle.gq_exists.specs.steps.Settled.{IsSettled}
use Rattle.gq_exists.proofs.settled.are_settled.Given as goal

abbrev pub invariant-variables : goal.invariant-variables
invariant-variables l = (v : ℕ) → v < l.variable → IsSettled l.chunk v
