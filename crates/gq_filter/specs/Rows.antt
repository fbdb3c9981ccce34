-- Rows of a table, by their places.
use Rattle.std.specs.Prelude.{ℕ, ◌+◌, ◌-◌, length, slice_index, slice_set}
use Rattle.gq_plan.specs.declared.assignment.Assignment.{Assignment}
use Rattle.gq_filter.specs.declared.rows.Rows.{Rows}
use Rattle.gq_filter.specs.declared.rows.Rows.TheVariants.{Span, List}

abbrev pub count_in : Rows → ℕ
count_in (Span low high) = high - low
count_in (List rows) = length rows.now

-- the row at a place
abbrev pub row_in : Rows → ℕ → ℕ
row_in (Span low high) place = low + place
row_in (List rows) place = slice_index rows.now place

-- rows and load numbers, with another row for a node variable
abbrev pub with_row : ℕ → ℕ → Assignment → Assignment
with_row variable row old = record { nodes = slice_set old.nodes variable row; rels = old.rels }
