use Rattle.std.proofs.Common.{◌≡◌, ◌+◌, ◌≤◌, ◌++◌, drop, length}
use Rattle.gq_trails.specs.Trekking.{patterns_from}
use Rattle.gq_outer.specs.Rows.{item_at}
use Rattle.gq_trails.proofs.trek.take_patterns.Given as goal

abbrev pub invariant-patterns : goal.invariant-patterns
invariant-patterns l = record {
  taken : l.taken ++ patterns_from l.at (drop l.at l.patterns) (item_at l.row.rels) l.clause ≡ l.fn.taken ++ patterns_from 0 l.patterns (item_at l.row.rels) l.clause;
  few : length l.taken ≤ length l.fn.taken + l.at;
  most : l.at ≤ l.at-end;
}
