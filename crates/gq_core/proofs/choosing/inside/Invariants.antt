use Rattle.std.proofs.Common.{◌≡◌, take, filter}
use Rattle.gq_plan.specs.Soundness.{has_number}
use Rattle.gq_core.proofs.choosing.inside.Given as goal

abbrev pub invariant-loop-number : goal.invariant-loop-number
invariant-loop-number l = l.found ≡ filter (has_number l.nodes) (take l.number-index l.numbers)
