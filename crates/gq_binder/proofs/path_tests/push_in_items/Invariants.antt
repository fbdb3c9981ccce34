use Rattle.std.proofs.Common.{◌≡◌, ◌++◌, drop, flat_map}
use Rattle.gq_bound.specs.Refusals.{items_in}
use Rattle.gq_bound.specs.Tested.{seen_elsewhere}
use Rattle.gq_binder.proofs.path_tests.push_in_items.Given as goal

abbrev pub invariant-loop-item : goal.invariant-loop-item
invariant-loop-item l = l.all ++ flat_map seen_elsewhere (items_in l.scope (drop l.item-index l.items)) ≡ l.fn.all ++ flat_map seen_elsewhere (items_in l.scope l.items)
