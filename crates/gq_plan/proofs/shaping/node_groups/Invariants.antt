use Rattle.std.proofs.Common.{◌≡◌, map, take}
use Rattle.gq_plan.specs.Shapes.{places_of}
use Rattle.gq_plan.proofs.shaping.node_groups.Given as goal

abbrev pub invariant-loop-node : goal.invariant-loop-node
invariant-loop-node l = l.groups ≡ map (places_of l.places).nodes (take l.node-index l.nodes)
