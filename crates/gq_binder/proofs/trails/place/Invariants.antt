use Rattle.std.proofs.Common.{◌≡◌, map, take}
use Rattle.gq_scopes.specs.Renumbering.{placed_in}
use Rattle.gq_binder.proofs.trails.place.Given as goal

abbrev pub invariant-loop-node : goal.invariant-loop-node
invariant-loop-node l = l.placed ≡ map (placed_in l.order) (take l.node-index l.node-items)
