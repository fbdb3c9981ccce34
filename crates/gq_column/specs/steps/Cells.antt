-- A column as it is kept, which rows are there and the cells of these, and a block that is gathered from it.
use Rattle.std.specs.Prelude.{ℕ, ℤ, pos, ◌≡◌, ◌^◌, ◌<◌, ◌≤◌, ◌+◌, ◌==◌, true, false, List, [], ◌∷◌, Bool, Option, Some, None, is_some, unwrap_or, if◌then◌else◌, length, map, take, slice_index_or, count_by}
use Rattle.std.specs.List.{range_with_len}
use Rattle.std.specs.Int.{bit_at}

-- the cells that are not null, in order
abbrev pub kept_of : List (Option ℤ) → List ℤ
kept_of [] = []
kept_of (None ∷ cells) = kept_of cells
kept_of (Some cell ∷ cells) = cell ∷ kept_of cells

-- the cells that flags and kept cells stand for: each flag that is set takes the next kept cell
abbrev pub flagged : List Bool → List ℤ → List (Option ℤ)
flagged [] kept = []
flagged (false ∷ flags) kept = None ∷ flagged flags kept
flagged (true ∷ flags) [] = None ∷ flagged flags []
flagged (true ∷ flags) (cell ∷ kept) = Some cell ∷ flagged flags kept

-- the cells that bits and kept cells stand for: where a row's bit is set, its cell stands at the row's rank
abbrev pub cells_of : List Bool → List ℤ → List (Option ℤ)
cells_of present kept =
    map (λ row. if slice_index_or present row false then Some (slice_index_or kept (count_by (λ on. on) (take row present)) (pos 0)) else None)
    (range_with_len 0 (length present))

-- as many cells are kept as rows are not null, and a 0 behind them
pub record AreKept (present : List Bool) (kept : List ℤ) : Type 0 where
  pub few : length present < 2 ^ 32
  pub count : length kept ≡ count_by (λ on. on) present + 1
  pub zero : slice_index_or kept (count_by (λ on. on) present) (pos 0) ≡ pos 0

-- the cells of the places from low to below high are written, 0 for null; the rest of out stays; bit i of the word tells whether the cell of the place low + i is there
pub record BlockGathered (cell : ℕ → Option ℤ) (low high : ℕ) (old new : List ℤ) (word : ℕ) : Type 0 where
  pub written : (k : ℕ) → low ≤ k → k < high → slice_index_or new k (pos 0) ≡ unwrap_or (cell k) (pos 0)
  pub before : (k : ℕ) → k < low → slice_index_or new k (pos 0) ≡ slice_index_or old k (pos 0)
  pub after : (k : ℕ) → high ≤ k → slice_index_or new k (pos 0) ≡ slice_index_or old k (pos 0)
  pub marked : (i : ℕ) → low + i < high → (bit_at word i == 1) ≡ is_some (cell (low + i))
