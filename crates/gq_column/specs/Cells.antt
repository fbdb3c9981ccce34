-- A column as a list of optional integers, and what gathering leaves.
use Rattle.std.specs.Prelude.{ℕ, ℤ, pos, ◌≡◌, ◌<◌, List, Bool, Option, None, is_some, unwrap_or, length, drop, slice_index_or}
use Rattle.gq_bits.specs.Places.{is_marked}

-- the cell of a row; past the end it is null
abbrev pub cell_at : List (Option ℤ) → ℕ → Option ℤ
cell_at column row = slice_index_or column row None

-- the cells are written to the front of out, 0 for null; the rest of out stays; exactly the places whose cell is not null are marked
pub record Gathered (cells : List (Option ℤ)) (old new : List ℤ) (known : List Bool) : Type 0 where
  pub written : (k : ℕ) → k < length cells → slice_index_or new k (pos 0) ≡ unwrap_or (cell_at cells k) (pos 0)
  pub rest : drop (length cells) new ≡ drop (length cells) old
  pub marked : (k : ℕ) → is_marked known k ≡ is_some (cell_at cells k)
