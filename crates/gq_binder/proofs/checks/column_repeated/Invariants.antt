use Rattle.std.proofs.Common.{◌≡◌, [], Some, map, take, drop}
use Rattle.gq_bound.specs.Refusals.{first_behind, repeating_column}
use Rattle.gq_binder.proofs.checks.column_repeated.Given as goal

abbrev pub invariant-loop-column : goal.invariant-loop-column
invariant-loop-column l = record {
  met : l.met ≡ map (λ c. Some c.name) (take l.column-index l.columns);
  first : first_behind repeating_column (take l.column-index l.columns) (drop l.column-index l.columns) ≡ first_behind repeating_column [] l.columns;
}
