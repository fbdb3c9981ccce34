use Rattle.std.proofs.Common.{◌≡◌, filter, nat_lt, take}
use Rattle.gq_plan.proofs.shaping.earlier.Given as goal

abbrev pub invariant-loop-group : goal.invariant-loop-group
invariant-loop-group l = l.groups ≡ filter (λ i. nat_lt i l.last) (take l.group-index l.tested)
