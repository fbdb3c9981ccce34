-- The law that the tests of map entries are tests of them in any row.
use Rattle.std.specs.Prelude.{ℕ, List}
use Rattle.gq_core.specs.Entries.{entry_test}
use Rattle.gq_law_reaches.specs.Turned.{AreTests}

-- whichever text a query stands in, the test of a map entry `{k: c}` of a variable v passes in a row exactly where `v.k = c` is true there
abbrev pub EntryTestsAreTests : Type 0
EntryTestsAreTests = (text : List ℕ) → AreTests (entry_test text)
