-- When a pool serves a pipeline.
use Rattle.std.specs.Prelude.{◌≡◌, ◌<◌, ◌^◌, ℕ, pos, Option, Some, None, List, [], slice_index, slice_index_or}
use Rattle.gq_pool.specs.Pool.{Pool, cell_at}
use Rattle.gq_pool.specs.Slots.{Holds}
use Rattle.gq_pipe.specs.Rest.{Rest}

-- a slot has a row in a cell
pub record HasCell (p : Pool) (slot place row : ℕ) : Type 0 where
  pub is : cell_at p slot place ≡ pos row
  pub few : row < 2 ^ 32

-- the row that a column has in a cell, if it has one there
abbrev pub row_of : List (List (Option ℕ)) → ℕ → ℕ → Option ℕ
row_of cells column place = slice_index_or (slice_index_or cells column []) place None

-- where columns have rows, the first slots have these in their cells
abbrev pub HasCells : Pool → List ℕ → List (List (Option ℕ)) → Type 0
HasCells p slots cells = (column place row : ℕ) → row_of cells column place ≡ Some row → HasCell p (slice_index slots column) place row

-- the pipeline's slots are out in the pool, and have the cells of the chunk that stands
pub record Serves (r : Rest) (p : Pool) : Type 0 where
  pub held : Holds p r.slots
  pub cells : HasCells p r.slots r.cells
