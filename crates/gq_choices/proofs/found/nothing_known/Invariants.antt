use Rattle.std.proofs.Common.{◌≡◌, map, take, None}
use Rattle.gq_choices.proofs.found.nothing_known.Given as goal

abbrev pub invariant-loop-table : goal.invariant-loop-table
invariant-loop-table l = l.known ≡ map (λ l. None) (take l._table-index l.tables)
