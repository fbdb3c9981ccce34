use Rattle.std.proofs.Common.{◌≡◌, map, take}
use Rattle.gq_execute.specs.steps.Costing.{last_cost}
use Rattle.gq_execute.proofs.planning.costs_of.Given as goal

abbrev pub invariant-loop-order : goal.invariant-loop-order
invariant-loop-order l = l.costs ≡ map last_cost (take l.order-index l.orders)
