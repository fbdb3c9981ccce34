-- Relationships that are followed from a row, by their places there.
use Rattle.std.specs.Prelude.{◌≡◌, ℕ, ◌+◌, ◌^◌, ◌<◌, ◌≤◌, Option, Some, MatchOption, length, slice_get}
use Rattle.gq_base.specs.Directions.{opposite}
use Rattle.gq_base.specs.Plain.{Graph}
use Rattle.gq_base.specs.declared.direction.Direction.{Direction}
use Rattle.gq_store.specs.Neighbours.{near_rows, neighbours, numbers}
use Rattle.gq_steps.specs.declared.follow.Hop.{Hop}

-- the relationship at a place among those that are followed from a row
pub record IsHop (g : Graph) (table : ℕ) (to : Direction) (row place : ℕ) (h : Hop) : Type 0 where
  pub number : slice_get (numbers g table to row) place ≡ Some h.number
  pub leads : slice_get (neighbours g table to row) place ≡ Some h.row
  pub inside : h.row < near_rows g table (opposite to)
  pub few : place + 1 < 2 ^ 32

-- the relationship at the place, or none where there is no such place
abbrev pub IsHopAt : Graph → ℕ → Direction → ℕ → ℕ → Option Hop → Type 0
IsHopAt g table to row place found =
    MatchOption found (length (neighbours g table to row) ≤ place) (IsHop g table to row place)
