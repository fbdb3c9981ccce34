use Rattle.std.proofs.Common.{◌≡◌, ◌++◌, map, take}
use Rattle.gq_bound.specs.Columns.{item_column}
use Rattle.gq_resolve.specs.Resolving.{calls_of}
use Rattle.gq_binder.proofs.columns.push_items.Given as goal

abbrev pub invariant-loop-item : goal.invariant-loop-item
invariant-loop-item l = l.all ≡ l.fn.all ++ map (item_column (calls_of l.form) l.text l.scope) (take l.item-index l.items)
