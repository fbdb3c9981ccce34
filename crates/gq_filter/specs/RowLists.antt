-- The cells that the lanes of one node variable have at one of its rows.
use Rattle.std.specs.Prelude.{ℕ, ℤ, List, Option, Some, None, slice_get}
use Rattle.gq_column.specs.Cells.{cell_at}
use Rattle.gq_filter.specs.declared.source.Feed.{Feed}

abbrev pub feed_cell : ℕ → Option Feed → Option ℤ
feed_cell row None = None
feed_cell row (Some feed) = cell_at feed.property.now.column row

abbrev pub cells_at : List Feed → ℕ → ℕ → Option ℤ
cells_at feeds row lane = feed_cell row (slice_get feeds lane)
