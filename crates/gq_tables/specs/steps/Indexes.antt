-- Rows by their keys, in either form of index.
use Rattle.std.specs.Prelude.{ℕ}
use Rattle.std.specs.declared.option.Option.{Option}
use Rattle.gq_base.specs.Values.{Val}
use Rattle.gq_tables.specs.steps.KeyIndexes.{held}
use Rattle.gq_tables.specs.steps.NearKeys.{near}
use Rattle.gq_tables.specs.declared.keys.Index.{Index}
use Rattle.gq_tables.specs.declared.keys.Index.TheVariants as index

-- the row that stands at a key
abbrev pub found : Index → Val → Option ℕ
found (index.Near keys) v = near keys v
found (index.Slots keys) v = held keys v
