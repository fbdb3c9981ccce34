use Rattle.std.proofs.Common.{◌≡◌, ◌++◌, drop}
use Rattle.std.specs.Prelude.{filter_map}
use Rattle.gq_bound.specs.Columns.{column_expr}
use Rattle.gq_bound.specs.steps.Parts.{renumbered_all}
use Rattle.gq_binder.proofs.trails.push_renumbered_columns.Given as goal

abbrev pub invariant-loop-column : goal.invariant-loop-column
invariant-loop-column l =
    l.all ++ renumbered_all l.orders.nodes.now l.orders.rels.now (filter_map column_expr (drop l.column-index l.columns)) ≡ l.fn.all ++ renumbered_all l.orders.nodes.now l.orders.rels.now (filter_map column_expr l.columns)
