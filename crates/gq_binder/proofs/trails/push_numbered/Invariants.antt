use Rattle.std.proofs.Common.{◌≡◌, ◌++◌, take}
use Rattle.gq_bound.specs.steps.Parts.{renumbered_keys}
use Rattle.gq_binder.proofs.trails.push_numbered.Given as goal

abbrev pub invariant-loop-key : goal.invariant-loop-key
invariant-loop-key l = l.all ≡ l.fn.all ++ renumbered_keys l.orders.nodes.now l.orders.rels.now (take l.key-index l.keys)
