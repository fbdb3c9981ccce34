use Rattle.std.proofs.Common.{◌≡◌, ◌++◌, take, not, filter}
use Rattle.gq_plan.specs.Soundness.{has_number}
use Rattle.gq_core.proofs.choosing.push_outside.Given as goal

abbrev pub invariant-loop-number : goal.invariant-loop-number
invariant-loop-number l = l.order ≡ l.fn.order ++ filter (λ v. not (has_number l.nodes v)) (take l.number-index l.numbers)
