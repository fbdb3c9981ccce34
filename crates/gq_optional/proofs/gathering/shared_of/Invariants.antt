use Rattle.std.proofs.Common.{◌≡◌, map, take}
use Rattle.gq_plan.specs.Soundness.{has_number}
use Rattle.gq_optional.proofs.gathering.shared_of.Given as goal

abbrev pub invariant-nodes : goal.invariant-nodes
invariant-nodes l = l.shared ≡ map (has_number l.known) (take l.node-index l.nodes)
