use Rattle.std.proofs.Common.{◌≡◌, [], take, flat_map, nat_eq, if◌then◌else◌}
use Rattle.gq_scopes.specs.Patterns.{NodePattern}
use Rattle.gq_core.proofs.parts.labels_of.Given as goal

abbrev pub invariant-loop-node : goal.invariant-loop-node
invariant-loop-node l = l.labels ≡ flat_map (λ (n : NodePattern). if nat_eq n.variable l.to then n.part.labels else []) (take l.node-index l.nodes)
