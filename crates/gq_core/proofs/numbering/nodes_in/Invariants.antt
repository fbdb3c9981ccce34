use Rattle.std.proofs.Common.{◌≡◌, take, map}
use Rattle.gq_scopes.specs.Renumbering.{placed_in}
use Rattle.gq_scopes.specs.Patterns.{NodePattern}
use Rattle.gq_core.proofs.numbering.nodes_in.Given as goal

abbrev pub invariant-loop-node : goal.invariant-loop-node
invariant-loop-node l = l.copies ≡ map (λ (n : NodePattern). record n { variable = placed_in l.order n.variable }) (take l.node-index l.nodes)
