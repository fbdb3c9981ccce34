use Rattle.std.proofs.Common.{◌≡◌, ◌++◌, take}
use Rattle.gq_bound.specs.steps.Parts.{renumbered_all}
use Rattle.gq_binder.proofs.trails.push_renumbered.Given as goal

abbrev pub invariant-loop-named : goal.invariant-loop-named
invariant-loop-named l = l.all ≡ l.fn.all ++ renumbered_all l.orders.nodes.now l.orders.rels.now (take l.named-index l.exprs)
