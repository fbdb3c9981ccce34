use Rattle.std.proofs.Common.{◌≡◌}
use Rattle.gq_plan.specs.Assignments.{tuples}
use Rattle.gq_reference.proofs.assignments.tuples.Given as goal

abbrev pub invariant-loop : goal.invariant-loop
invariant-loop g l = l.tuples ≡ tuples l.counter l.items
