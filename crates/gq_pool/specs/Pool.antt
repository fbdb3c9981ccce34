-- A pool of vectors: the cells of each slot, and which slots are out.
use Rattle.std.specs.Prelude.{ℕ, ℤ, pos, ◌≡◌, ◌<◌, List, [], Bool, true, false, not, length, replicate, slice_set, slice_index_or, All, count_by}
use Rattle.std.specs.List.{refill}

-- a pool as its callers see it
pub record Pool : Type 0 where
  pub cells : List (List ℤ)
  pub out : List Bool

-- the cells of a slot
abbrev pub cells_of : Pool → ℕ → List ℤ
cells_of p slot = slice_index_or p.cells slot []

-- one cell of a slot
abbrev pub cell_at : Pool → ℕ → ℕ → ℤ
cell_at p slot place = slice_index_or (cells_of p slot) place (pos 0)

-- the slot is out
pub record IsOut (p : Pool) (slot : ℕ) : Type 0 where
  pub there : slot < length p.cells
  pub is_out : slice_index_or p.out slot false ≡ true

-- the slot is free
pub record IsFree (p : Pool) (slot : ℕ) : Type 0 where
  pub there : slot < length p.cells
  pub is_free : slice_index_or p.out slot true ≡ false

-- how many slots are free
abbrev pub spare_of : Pool → ℕ
spare_of p = count_by (λ out. not out) p.out

-- the pool with a slot taken
abbrev pub taken : Pool → ℕ → Pool
taken p slot = record p { out = slice_set p.out slot true }

-- the pool with a slot given back
abbrev pub freed : Pool → ℕ → Pool
freed p slot = record p { out = slice_set p.out slot false }

-- the pool with a slot's cells as they were last written; a slot keeps its number of cells
abbrev pub with_cells : Pool → ℕ → List ℤ → Pool
with_cells p slot written = let had = cells_of p slot in record p { cells = slice_set p.cells slot (refill (length had) had written) }

-- a pool of so many slots, all free, with the cells 0
pub record IsFresh (p : Pool) (slots : ℕ) : Type 0 where
  pub count : length p.cells ≡ slots
  pub free : p.out ≡ replicate slots false
  pub zero : (slot : ℕ) → slot < slots → All (λ cell. cell ≡ pos 0) (cells_of p slot)
