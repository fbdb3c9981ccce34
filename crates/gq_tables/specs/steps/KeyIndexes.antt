-- Rows by their keys, each in a slot of its key's window or in an ordered map.
use Rattle.std.specs.Prelude.{ℕ, Bool}
use Rattle.std.specs.declared.option.Option.{Option}
use Rattle.gq_base.specs.Values.{Val}
use Rattle.gq_tables.specs.steps.KeyMaps.{row_at, stands}
use Rattle.gq_tables.specs.steps.Slots.{row_or}
use Rattle.gq_tables.specs.declared.key_index.KeyIndex.{KeyIndex}

-- the row that stands at a key
abbrev pub held : KeyIndex → Val → Option ℕ
held index v = row_or index.slots.items v (row_at index.others v)

-- some row stands at a key, if there is a key
abbrev pub is_held : KeyIndex → Option Val → Bool
is_held index key = stands (held index) key
