use Rattle.std.proofs.Common.{◌≡◌, take, filter}
use Rattle.gq_law_reaches.specs.Core.{is_core_entry}
use Rattle.gq_core.proofs.narrowing.entries_below.Given as goal

abbrev pub invariant-loop-entry : goal.invariant-loop-entry
invariant-loop-entry l = l.found ≡ filter (is_core_entry l.count) (take l.entry-index l.entries)
