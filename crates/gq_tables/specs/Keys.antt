-- The keys of the rows of a node table (this project's profile).
use Rattle.std.specs.Prelude.{ℕ, Bool, false, List}
use Rattle.std.specs.List.{position}
use Rattle.std.specs.declared.option.Option.{Option}
use Rattle.std.specs.declared.option.Option.TheVariants.{Some, None}
use Rattle.gq_base.specs.Valid.{key_of, same_key}
use Rattle.gq_base.specs.Values.{Val}
use Rattle.gq_tables.specs.Cells.{Cells}

-- a key that may be missing is this one
abbrev pub is_key : Val → Option Val → Bool
is_key key None = false
is_key key (Some own) = same_key own key

-- a row has this key; a row without a key has none
abbrev pub has_key : Val → Cells → Bool
has_key key row = is_key key (key_of row)

-- the number of the first row with this key, from 0
abbrev pub find_key : List Cells → Val → Option ℕ
find_key rows key = position (has_key key) rows
