-- The cells that lanes have in a row, in which one node variable takes the rows of a list.
use Rattle.std.specs.Prelude.{ℕ, ℤ, Option}
use Rattle.gq_column.specs.Cells.{cell_at}
use Rattle.gq_filter.specs.Rows.{with_row}
use Rattle.gq_filter.specs.declared.standing.RowLane.{RowLane}
use Rattle.gq_filter.specs.declared.standing.RowLane.TheVariants.{Moves, Stands}
use Rattle.gq_filter.specs.declared.standing_row.StandingRow.{StandingRow}
use Rattle.gq_filter.specs.steps.RowCells.{cells_of}

-- lane by lane the cells where the variable takes a row
abbrev pub standing_cells : StandingRow → ℕ → ℕ → Option ℤ
standing_cells s row lane = cells_of s.graph.now s.feeds.now (with_row s.variable row s.row.now) lane

-- the cell that a lane has there
abbrev pub lane_cell : RowLane → ℕ → Option ℤ
lane_cell (Moves column) row = cell_at column.now row
lane_cell (Stands cell) row = cell
