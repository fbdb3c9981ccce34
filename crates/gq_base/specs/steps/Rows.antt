-- The rows of a node table as they are kept: one list of cells, cut where those of each row end.
use Rattle.std.specs.Prelude.{ℕ, zero, suc, ◌≡◌, ◌≤◌, List, [], ◌∷◌, length, slice_range}
use Rattle.std.specs.declared.option.Option.{Option}
use Rattle.gq_base.specs.declared.cell.Cell.{Cell}

-- the rows whose cells end here; those of the first begin at `start`
abbrev pub rows_from : ℕ → List ℕ → List (Option Cell) → List (List (Option Cell))
rows_from start [] cells = []
rows_from start (end ∷ ends) cells = slice_range cells start end ∷ rows_from end ends cells

-- the cells of each row end where those of the next begin, and those of the last where all end
abbrev pub AreCut : ℕ → List ℕ → List (Option Cell) → Type 0
AreCut start [] cells = start ≡ length cells
AreCut start (end ∷ ends) cells = (start ≤ end) × AreCut end ends cells

-- where the cells of a row begin
abbrev pub start_at : ℕ → List ℕ → ℕ → ℕ
start_at start ends zero = start
start_at start [] (suc row) = start
start_at start (end ∷ ends) (suc row) = start_at end ends row
