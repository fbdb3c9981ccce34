-- How the rows of a plain graph grow.
use Rattle.std.specs.Prelude.{ℕ, List, [], ◌∷◌, ◌++◌, slice_get, slice_set}
use Rattle.std.specs.declared.option.Option.{Option}
use Rattle.std.specs.declared.option.Option.TheVariants.{Some, None}

abbrev extended : {R : Type 0} → List (List R) → ℕ → R → Option (List R) → List (List R)
extended tables table row None = tables
extended tables table row (Some rows) = slice_set tables table (rows ++ row ∷ [])

-- the tables' rows, of which this table has one more at its end
abbrev pub with_row : {R : Type 0} → ℕ → R → List (List R) → List (List R)
with_row table row tables = extended tables table row (slice_get tables table)
