use Rattle.std.proofs.Common.{◌≡◌, ◌++◌}
use Rattle.std.specs.Prelude.{filter_map}
use Rattle.gq_bound.specs.Columns.{column_expr}
use Rattle.gq_binder.proofs.columns.push_known.Given as goal

abbrev pub invariant-loop-column : goal.invariant-loop-column
invariant-loop-column l = l.known ++ filter_map column_expr l.column-iterator.rest.items ≡ l.fn.known ++ filter_map column_expr l.fn.columns
