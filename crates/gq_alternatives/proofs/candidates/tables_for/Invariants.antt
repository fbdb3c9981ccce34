use Rattle.std.proofs.Common.{◌≡◌, filter}
use Rattle.std.specs.List.{range_with_len}
use Rattle.gq_alternatives.specs.Candidates.{labels_fit}
use Rattle.gq_alternatives.proofs.candidates.tables_for.Given as goal

abbrev pub invariant-loop-table : goal.invariant-loop-table
invariant-loop-table l = l.tables ≡ filter (labels_fit l.catalog l.patterns l.variable) (range_with_len 0 l.table)
