-- The rows to which the relationships of a table lead.
use Rattle.std.specs.Prelude.{ℕ, List, Bool, ◌==◌}
use Rattle.std.specs.List.{list_any}
use Rattle.gq_base.specs.Plain.{Graph}
use Rattle.gq_base.specs.declared.direction.Direction.{Direction}

-- the relationships of a table of a graph, as they are followed in a direction
pub record RowsAhead : Type 0 where
  pub graph : Graph
  pub table : ℕ
  pub direction : Direction

-- whether a row stands in a list
abbrev pub stands_in : List ℕ → ℕ → Bool
stands_in rows row = list_any (λ r. r == row) rows
