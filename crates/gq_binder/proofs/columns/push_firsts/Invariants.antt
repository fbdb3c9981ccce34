use Rattle.std.proofs.Common.{◌≡◌, ◌++◌, [], Some, map, take, drop}
use Rattle.gq_bound.specs.Columns.{column_of, firsts_behind}
use Rattle.gq_binder.proofs.columns.push_firsts.Given as goal

abbrev pub invariant-loop-variable : goal.invariant-loop-variable
invariant-loop-variable l = record {
  met : l.met ≡ map (λ m. Some m.name) (take l.variable-index l.named);
  listed : l.all ++ map column_of (firsts_behind (take l.variable-index l.named) (drop l.variable-index l.named)) ≡ l.fn.all ++ map column_of (firsts_behind [] l.named);
}
