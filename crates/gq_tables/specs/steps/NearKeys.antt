-- Rows by integer keys: a place for each number from the least key on.
use Rattle.std.specs.Prelude.{ℕ, ℤ, ◌-ℤ◌, ◌==◌, List, cond, get_or, int_lt, unsigned_abs}
use Rattle.std.specs.declared.option.Option.{Option}
use Rattle.std.specs.declared.option.Option.TheVariants.{Some, None}
use Rattle.gq_base.specs.Values.{Val, int}
use Rattle.gq_tables.specs.declared.near_keys.NearKeys.{NearKeys}

-- the place of a number that is not below the least
abbrev pub place_of : ℤ → ℤ → Option ℕ
place_of low z = cond (int_lt z low) None (Some (unsigned_abs (z -ℤ low)))

-- the mark of a place without a row: the greatest number of 32 bits
abbrev pub no_row : ℕ
no_row = 4294967295

-- the row at a place; there is none past the last place
abbrev pub row_in : List ℕ → Option ℕ → Option ℕ
row_in rows None = None
row_in rows (Some place) = cond (get_or rows place no_row == no_row) None (Some (get_or rows place no_row))

-- the row that stands at a key
abbrev pub near : NearKeys → Val → Option ℕ
near index (int z) = row_in index.rows.items (place_of index.low z)
near index v = None
