use Rattle.std.proofs.Common.{◌≡◌, filter, take}
use Rattle.gq_choices.specs.steps.Narrowing.{has}
use Rattle.gq_choices.proofs.narrowing.among.Given as goal

abbrev pub invariant-loop-table : goal.invariant-loop-table
invariant-loop-table l = l.fewer ≡ filter (has l.set) (take l.table-index l.tables)
