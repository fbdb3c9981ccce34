-- Kept cells that are read by rank.
use Rattle.std.proofs.Common.{◌≡◌, ℕ, ℤ, pos, zero, suc, ◌+◌, ◌-◌, ◌<◌, ◌≤◌, Bool, true, false, cond, List, [], ◌∷◌, ◌++◌, length, get_or, take, drop, map, Option, Some, None, refl, sym, ap, ◌∙◌, arith, zero-add, count_by}
use Rattle.std.specs.Prelude.{is_some, unwrap_or}
use Rattle.std.proofs.lemmas.List.{length-take, length-drop, length-map, get_or-take, get_or-drop, get_or-map, take-take, ext_get_or}
use Rattle.std.proofs.lemmas.List.Sums.{sum_by-cons, sum_by-append, sum_by-take-le, count_by_more_yes, count_by-le-length, sum_by_more}
use Rattle.std.proofs.lemmas.List.FromFn.{length-map-range_with_len, get_or-map-range_with_len}
use Rattle.gq_base.proofs.ListFacts.{take-add}
use Rattle.gq_column.specs.Cells.{cell_at}
use Rattle.gq_column.specs.steps.Cells.{kept_of, cells_of, AreKept}

abbrev pub rank : List Bool → ℕ → ℕ
rank present row = count_by (λ on. on) (take row present)

abbrev one_if : Bool → ℕ
one_if on = cond on 1 0

pub count-cons : (b : Bool) (bs : List Bool) → count_by (λ on. on) (b ∷ bs) ≡ cond b 1 0 + count_by (λ on. on) bs
count-cons b bs = sum_by-cons one_if b bs

pub length-cells_of : (present : List Bool) (kept : List ℤ) → length (cells_of present kept) ≡ length present
length-cells_of present kept = length-map-range_with_len _ 0 (length present)

-- a cell by its rank
pub cell-cells_of : (present : List Bool) (kept : List ℤ) (row : ℕ) → row < length present →
    cell_at (cells_of present kept) row ≡ cond (get_or present row false) (Some (get_or kept (rank present row) (pos 0))) None
cell-cells_of present kept row h =
    get_or-map-range_with_len (λ row. cond (get_or present row false) (Some (get_or kept (rank present row) (pos 0))) None) 0 (length present) row row None h (omega arith)

-- the rank of a row that is set is below the number of ones
pub rank_below : (present : List Bool) (row : ℕ) → row < length present → get_or present row false ≡ true → rank present row < count_by (λ on. on) present
rank_below present row h on = omega (arith, count_by_more_yes (λ on. on) present row false h on, sum_by-take-le one_if present (row + 1))

-- as many cells are kept as are not null
pub length-kept_of : (cells : List (Option ℤ)) → length (kept_of cells) ≡ count_by (λ on. on) (map (λ c. is_some c) cells)
length-kept_of [] = refl
length-kept_of (None ∷ cells) = omega (arith, length-kept_of cells, count-cons false (map (λ c. is_some c) cells))
length-kept_of (Some c ∷ cells) = omega (arith, length-kept_of cells, count-cons true (map (λ c. is_some c) cells))

-- a kept cell is the cell of the row of its rank
kept_at : (cells : List (Option ℤ)) (row : ℕ) → row < length cells →
    cond (is_some (get_or cells row None)) (Some (get_or (kept_of cells) (rank (map (λ c. is_some c) cells) row) (pos 0))) None ≡ get_or cells row None
kept_at [] row h = absurd (omega arith)
kept_at (None ∷ cells) zero h = refl
kept_at (Some c ∷ cells) zero h = refl
kept_at (None ∷ cells) (suc row) h =
    ap (λ n. cond (is_some (get_or cells row None)) (Some (get_or (kept_of cells) n (pos 0))) None) (count-cons false (take row (map (λ c. is_some c) cells)) ∙ zero-add (rank (map (λ c. is_some c) cells) row))
    ∙ kept_at cells row (omega arith)
kept_at (Some c ∷ cells) (suc row) h =
    let e : 1 + rank (map (λ c. is_some c) cells) row ≡ suc (rank (map (λ c. is_some c) cells) row) = omega arith in
    ap (λ n. cond (is_some (get_or cells row None)) (Some (get_or (c ∷ kept_of cells) n (pos 0))) None) (count-cons true (take row (map (λ c. is_some c) cells)) ∙ e)
    ∙ kept_at cells row (omega arith)

-- a 0 behind the cells
pub padded : (xs : List ℤ) (k : ℕ) → get_or (xs ++ (pos 0 ∷ [])) k (pos 0) ≡ get_or xs k (pos 0)
padded [] zero = refl
padded [] (suc k) = refl
padded (x ∷ xs) zero = refl
padded (x ∷ xs) (suc k) = padded xs k

-- the cells that are kept, by the rows that are not null, are the cells
pub cells_of-kept_of : (cells : List (Option ℤ)) → cells_of (map (λ c. is_some c) cells) (kept_of cells ++ (pos 0 ∷ [])) ≡ cells
cells_of-kept_of cells =
    let present = map (λ c. is_some c) cells in
    let kept : List ℤ = kept_of cells ++ (pos 0 ∷ []) in
    let size : length present ≡ length cells = length-map cells (λ c. is_some c) in
    ext_get_or None (cells_of present kept) cells (length-cells_of present kept ∙ size)
    (λ row h.
    let inside : row < length present = omega (arith, h, length-cells_of present kept) in
    cell-cells_of present kept row inside
    ∙ ap (λ z. cond (get_or present row false) (Some z) None) (padded (kept_of cells) (rank present row))
    ∙ ap (λ b. cond b (Some (get_or (kept_of cells) (rank present row) (pos 0))) None) (get_or-map (λ c. is_some c) cells row None false (omega (arith, size)))
    ∙ kept_at cells row (omega (arith, size)))

-- where all bits are set, the rank of a row is the row
pub all_set : (bs : List Bool) → count_by (λ on. on) bs ≡ length bs → (row : ℕ) → row < length bs → (get_or bs row false ≡ true) × (rank bs row ≡ row)
all_set [] e row h = absurd (omega arith)
all_set (false ∷ bs) e row h = absurd (omega (arith, e, count-cons false bs, count_by-le-length (λ on. on) bs))
all_set (true ∷ bs) e zero h = (refl, refl)
all_set (true ∷ bs) e (suc row) h =
    let rest = all_set bs (omega (arith, e, count-cons true bs)) row (omega arith) in
    (rest.0, omega (arith, count-cons true (take row bs), rest.1))

-- the rank of a row after another
pub rank-add : (bs : List Bool) (low k : ℕ) → rank bs (low + k) ≡ rank bs low + count_by (λ on. on) (take k (drop low bs))
rank-add bs low k = ap (count_by (λ on. on)) (take-add low k bs) ∙ sum_by-append one_if (take low bs) (take k (drop low bs))

-- a column with no null
pub full_cell : (present : List Bool) (kept : List ℤ) (row : ℕ) → AreKept present kept → length kept ≡ length present + 1 → row < length present →
    cell_at (cells_of present kept) row ≡ Some (get_or kept row (pos 0))
full_cell present kept row k full h =
    let set = all_set present (omega (arith, k.count, full)) row h in
    cell-cells_of present kept row h ∙ ap (λ b. cond b (Some (get_or kept (rank present row) (pos 0))) None) set.0 ∙ ap (λ n. Some (get_or kept n (pos 0))) set.1

-- a span with no null
pub span_cell : (present : List Bool) (kept : List ℤ) (low high k : ℕ) → low ≤ high → high ≤ length present → rank present high - rank present low ≡ high - low → k < high - low →
    cell_at (cells_of present kept) (low + k) ≡ Some (get_or kept (rank present low + k) (pos 0))
span_cell present kept low high k up inside full h =
    let span : List Bool = take (high - low) (drop low present) in
    let size : length span ≡ high - low = omega (arith, length-take (high - low) (drop low present), length-drop low present) in
    let at : low + (high - low) ≡ high = omega arith in
    let ones : count_by (λ on. on) span ≡ length span = omega (arith, rank-add present low (high - low), ap (rank present) at, full, size, sum_by-take-le one_if (drop low present) (high - low)) in
    let set = all_set span ones k (omega (arith, size)) in
    let on : get_or present (low + k) false ≡ true = sym (get_or-take (high - low) (drop low present) k false h ∙ get_or-drop low present k false) ∙ set.0 in
    let short : take k span ≡ take k (drop low present) = take-take k (high - low) (drop low present) (omega arith) in
    let there : rank present (low + k) ≡ rank present low + k = rank-add present low k ∙ ap (λ n. rank present low + n) (sym (ap (count_by (λ on. on)) short) ∙ set.1) in
    cell-cells_of present kept (low + k) (omega arith) ∙ ap (λ b. cond b (Some (get_or kept (rank present (low + k)) (pos 0))) None) on ∙ ap (λ n. Some (get_or kept n (pos 0))) there

-- one more row
pub rank_more : (present : List Bool) (row : ℕ) → row < length present → rank present (row + 1) ≡ rank present row + cond (get_or present row false) 1 0
rank_more present row h = sum_by_more one_if present row false h

pub rank_le : (present : List Bool) (low high : ℕ) → low ≤ high → rank present low ≤ rank present high
rank_le present low high up = (let at : low + (high - low) ≡ high = omega arith in omega (arith, rank-add present low (high - low), ap (rank present) at))

pub rank_most : (present : List Bool) (row : ℕ) → rank present row ≤ count_by (λ on. on) present
rank_most present row = sum_by-take-le one_if present row

-- the kept cell of a row, or the 0 behind all of them where the row is null
pub chosen : (present : List Bool) (kept : List ℤ) (row at : ℕ) (on : Bool) → AreKept present kept → row < length present → on ≡ get_or present row false → at ≡ cond on (rank present row) (count_by (λ on. on) present) →
    (get_or kept at (pos 0) ≡ unwrap_or (cell_at (cells_of present kept) row) (pos 0)) × (on ≡ is_some (cell_at (cells_of present kept) row))
chosen present kept row at true k h bit place =
    let is : cell_at (cells_of present kept) row ≡ Some (get_or kept (rank present row) (pos 0)) =
    cell-cells_of present kept row h ∙ ap (λ b. cond b (Some (get_or kept (rank present row) (pos 0))) None) (sym bit) in
    (ap (λ n. get_or kept n (pos 0)) place ∙ ap (λ (c : Option ℤ). unwrap_or c (pos 0)) (sym is), ap (λ (c : Option ℤ). is_some c) (sym is))
chosen present kept row at false k h bit place =
    let is : cell_at (cells_of present kept) row ≡ None =
    cell-cells_of present kept row h ∙ ap (λ b. cond b (Some (get_or kept (rank present row) (pos 0))) None) (sym bit) in
    (ap (λ n. get_or kept n (pos 0)) place ∙ k.zero ∙ ap (λ (c : Option ℤ). unwrap_or c (pos 0)) (sym is), ap (λ (c : Option ℤ). is_some c) (sym is))

-- that place is one of the kept cells
pub chosen_inside : (present : List Bool) (row at : ℕ) (on : Bool) → at ≡ cond on (rank present row) (count_by (λ on. on) present) → at ≤ count_by (λ on. on) present
chosen_inside present row at true place = omega (arith, place, rank_most present row)
chosen_inside present row at false place = omega (arith, place)
