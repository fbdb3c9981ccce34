use Rattle.std.proofs.Common.{◌≡◌, ◌++◌, take}
use Rattle.gq_scopes.specs.Patterns.{entries_of}
use Rattle.gq_scopes.proofs.variables.push_entries.Given as goal

abbrev pub invariant-loop-entry : goal.invariant-loop-entry
invariant-loop-entry l = l.entries ≡ l.fn.entries ++ entries_of l.variable l.called (take l.entry-index l.map)
