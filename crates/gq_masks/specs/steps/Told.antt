-- Rows of which it is told.
use Rattle.std.specs.Prelude.{◌≡◌, ◌<◌, ◌≤◌, ℕ, length}
use Rattle.gq_base.specs.Plain.{Graph}
use Rattle.gq_base.specs.declared.direction.Direction.{Direction}
use Rattle.gq_store.specs.Neighbours.{near_rows}

-- relationships are followed from so many rows, and it is told of some of these
pub record IsTold (g : Graph) (table : ℕ) (direction : Direction) (rows told : ℕ) : Type 0 where
  pub within : table < length g.catalog.rels
  pub many : rows ≡ near_rows g table direction
  pub few : told ≤ rows
