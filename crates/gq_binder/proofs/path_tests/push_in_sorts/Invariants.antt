use Rattle.std.proofs.Common.{◌≡◌, ◌++◌, drop, flat_map}
use Rattle.gq_bound.specs.Refusals.{sorts_in}
use Rattle.gq_bound.specs.Tested.{seen_elsewhere}
use Rattle.gq_binder.proofs.path_tests.push_in_sorts.Given as goal

abbrev pub invariant-loop-sort : goal.invariant-loop-sort
invariant-loop-sort l = l.all ++ flat_map seen_elsewhere (sorts_in l.scope (drop l.sort-index l.order)) ≡ l.fn.all ++ flat_map seen_elsewhere (sorts_in l.scope l.order)
