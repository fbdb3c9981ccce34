-- The cells that lanes have in rows that follow one another.
use Rattle.std.specs.Prelude.{ℕ, ℤ, ◌≡◌, ◌≤◌, List, Option, Some, None, length, slice_get, slice_range}
use Rattle.gq_column.specs.Cells.{cell_at}
use Rattle.gq_plan.specs.declared.variable.Variable.TheVariants.{Node}
use Rattle.gq_filter.specs.declared.source.Feed.{Feed}

-- the cell of a feed at a place of the rows from low to below high
abbrev pub span_cell : ℕ → ℕ → Option Feed → ℕ → Option ℤ
span_cell low high None place = None
span_cell low high (Some feed) place = cell_at (slice_range feed.property.now.column low high) place

-- the column of each feed has the rows below high
abbrev pub HaveRows : ℕ → List Feed → Type 0
HaveRows high feeds = (lane : ℕ) (feed : Feed) → slice_get feeds lane ≡ Some feed → high ≤ length feed.property.now.column

-- a lane of a node variable, whose column has the rows below high
pub record IsSpanned (variable high : ℕ) (feed : Feed) : Type 0 where
  pub of_node : feed.variable ≡ Node variable
  pub inside : high ≤ length feed.property.now.column

abbrev pub AreSpanned : ℕ → ℕ → List Feed → Type 0
AreSpanned variable high feeds = (lane : ℕ) (feed : Feed) → slice_get feeds lane ≡ Some feed → IsSpanned variable high feed
