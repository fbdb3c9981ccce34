use Rattle.std.proofs.Common.{◌≡◌, ◌++◌, drop}
use Rattle.gq_resolve.specs.MadeOf.{column_exprs}
use Rattle.gq_resolve.proofs.made.ColumnExprs.of.Given as goal

abbrev pub invariant-loop-column : goal.invariant-loop-column
invariant-loop-column l = l.deep ++ column_exprs (drop l.column-index l.columns) ≡ column_exprs l.columns
