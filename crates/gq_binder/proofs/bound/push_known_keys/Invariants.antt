use Rattle.std.proofs.Common.{◌≡◌, ◌++◌, drop}
use Rattle.std.specs.Prelude.{filter_map}
use Rattle.gq_bound.specs.Columns.{sort_expr}
use Rattle.gq_binder.proofs.bound.push_known_keys.Given as goal

abbrev pub invariant-loop-sort : goal.invariant-loop-sort
invariant-loop-sort l = l.keys ++ filter_map (sort_expr l.scope) (drop l.sort-index l.order) ≡ l.fn.keys ++ filter_map (sort_expr l.scope) l.order
