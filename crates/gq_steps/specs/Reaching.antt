-- Relationships that are followed to a row, whatever their load numbers are.
use Rattle.std.specs.Prelude.{◌≡◌, ℕ, ◌^◌, ◌<◌, ◌≤◌, MatchBool, Bool, Some, length, slice_get, slice_index, slice_set}
use Rattle.gq_base.specs.Plain.{Graph}
use Rattle.gq_plan.specs.Rows.{rel_table}
use Rattle.gq_plan.specs.declared.assignment.Assignment.{Assignment}
use Rattle.gq_plan.specs.declared.typed.Typed.{Typed}
use Rattle.gq_plan.specs.declared.follow.Follow.{Follow}
use Rattle.gq_base.specs.Directions.{opposite}
use Rattle.gq_store.specs.Neighbours.{near_rows, neighbours}

-- the relationship at a place leads to a row, which is written
pub record ReachesRow (g : Graph) (y : Typed) (f : Follow) (place : ℕ) (old new : Assignment) : Type 0 where
  pub row : ℕ
  pub leads : slice_get (neighbours g (rel_table y f.rel) f.direction (slice_index old.nodes f.from)) place ≡ Some row
  pub inside : row < near_rows g (rel_table y f.rel) (opposite f.direction)
  pub few : length (neighbours g (rel_table y f.rel) f.direction (slice_index old.nodes f.from)) < 2 ^ 32
  pub written : new ≡ record { nodes = slice_set old.nodes f.to row; rels = old.rels }

-- there is no such place, and nothing is written
pub record ReachesNone (g : Graph) (y : Typed) (f : Follow) (place : ℕ) (old new : Assignment) : Type 0 where
  pub past : length (neighbours g (rel_table y f.rel) f.direction (slice_index old.nodes f.from)) ≤ place
  pub same : new ≡ old

abbrev pub Reaches : Graph → Typed → Follow → ℕ → Assignment → Bool → Assignment → Type 0
Reaches g y f place old told new = MatchBool told (ReachesRow g y f place old new) (ReachesNone g y f place old new)
