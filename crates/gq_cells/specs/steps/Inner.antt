-- What the fields of cells stand for.
use Rattle.std.specs.Prelude.{ℕ, List, map, slice_get}
use Rattle.std.specs.List.{All}
use Rattle.gq_base.specs.Values.{Val}
use Rattle.gq_cells.specs.Numbers.{IsNumber, Kept, number_val}
use Rattle.gq_cells.specs.declared.source.Source.{Source}
use Rattle.gq_cells.specs.declared.cells.Cell.{Cell}
use Rattle.gq_cells.specs.declared.cells.Cells.TheInside.{Inside}

abbrev pub cell_of : ℕ → ℕ → Cell
cell_of source number = record { source = source; number = number }

abbrev pub cell_value : List Source → Cell → Val
cell_value sources cell = number_val (slice_get sources cell.source) cell.number

abbrev pub kept_of : Inside → Kept
kept_of c = record { sources = c.sources.items; values = map (cell_value c.sources.items) c.cells.items }

-- each cell has a source, which has its number
abbrev pub IsCell : List Source → Cell → Type 0
IsCell sources cell = IsNumber (slice_get sources cell.source) cell.number

abbrev pub AreNumbers : Inside → Type 0
AreNumbers c = All (IsCell c.sources.items) c.cells.items
