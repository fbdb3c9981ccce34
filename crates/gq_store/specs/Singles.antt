-- Single relationships: columns of the rows to which they lead, one at most from each row.
use Rattle.std.specs.Prelude.{ℕ, ◌≡◌, ◌<◌, ◌≤◌, List, Option, IfSome, length, slice_get}
use Rattle.std.specs.Option.{option_map}
use Rattle.gq_base.specs.Directions.{opposite}
use Rattle.gq_base.specs.Plain.{Graph}
use Rattle.gq_base.specs.declared.direction.Direction.{Direction}
use Rattle.gq_edges.specs.Once.{Pair, pair_at}
use Rattle.gq_store.specs.Neighbours.{near_rows, neighbours}

-- a column has the neighbour of each row, which has one at most
pub record AreSingles (g : Graph) (rel : ℕ) (direction : Direction) (column : List (Option Pair)) : Type 0 where
  pub len : length column ≡ near_rows g rel direction
  pub neighbour : (row : ℕ) → row < near_rows g rel direction → option_map (λ pair. pair.target) (pair_at column row) ≡ slice_get (neighbours g rel direction row) 0
  pub one : (row : ℕ) → row < near_rows g rel direction → length (neighbours g rel direction row) ≤ 1
  pub ends : (row : ℕ) → row < near_rows g rel direction → IfSome (slice_get (neighbours g rel direction row) 0) (λ other. other < near_rows g rel (opposite direction))
