use Rattle.std.proofs.Common.{◌≡◌, ◌≤◌, ◌++◌, drop}
use Rattle.gq_hops.specs.steps.Hops.{tables_of}
use Rattle.gq_hops.proofs.follow.tables_in.Given as goal

abbrev pub invariant-loop-table : goal.invariant-loop-table
invariant-loop-table l = record {
  most : l.table ≤ l.table-end;
  tables : l.tables.items ++ tables_of l.kind l.way l.table (drop l.table l.catalog.rels) ≡ tables_of l.kind l.way 0 l.catalog.rels;
}
