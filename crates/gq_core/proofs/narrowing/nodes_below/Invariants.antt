use Rattle.std.proofs.Common.{◌≡◌, take, filter, nat_lt}
use Rattle.gq_scopes.specs.Patterns.{NodePattern}
use Rattle.gq_core.proofs.narrowing.nodes_below.Given as goal

abbrev pub invariant-loop-node : goal.invariant-loop-node
invariant-loop-node l = l.found ≡ filter (λ (n : NodePattern). nat_lt n.variable l.count) (take l.node-index l.nodes)
