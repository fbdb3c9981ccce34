use Rattle.std.proofs.Common.{◌≡◌, map, take}
use Rattle.gq_core.specs.Entries.{entry_test}
use Rattle.gq_core.proofs.entries.entry_tests.Given as goal

abbrev pub invariant-loop-entry : goal.invariant-loop-entry
invariant-loop-entry l = l.tests ≡ map (entry_test l.text) (take l.entry-index l.entries)
