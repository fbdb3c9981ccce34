-- Rows whose cells stand one behind the other, and relationships of such rows: how they grow, and where each stands.
use Rattle.std.proofs.Common.{◌≡◌, ℕ, zero, suc, ◌-◌, ◌<◌, ◌≤◌, List, [], ◌∷◌, ◌++◌, length, take, drop, get_or, Some, refl, ap, ◌∙◌, arith, inl, inr, length-append}
use Rattle.std.specs.Prelude.{slice_range, slice_get}
use Rattle.std.specs.declared.option.Option.{Option}
use Rattle.std.proofs.lemmas.Bool.{cases_lt}
use Rattle.std.proofs.lemmas.List.{drop-append-le, take-append-le, drop_at, length-drop, take_all}
use Rattle.gq_base.specs.steps.Rels.{rels_of}
use Rattle.gq_base.specs.steps.Rows.{AreCut, rows_from, start_at}
use Rattle.gq_base.specs.declared.cell.Cell.{Cell}
use Rattle.gq_base.specs.declared.rels.Ends.{Ends}

-- ---- rows

pub length_rows_from : (start : ℕ) (ends : List ℕ) (cells : List (Option Cell)) → length (rows_from start ends cells) ≡ length ends
length_rows_from start [] cells = refl
length_rows_from start (end ∷ ends) cells = omega (arith, length_rows_from end ends cells)

cut_le : (start : ℕ) (ends : List ℕ) (cells : List (Option Cell)) → AreCut start ends cells → start ≤ length cells
cut_le start [] cells cut = omega (arith, cut)
cut_le start (end ∷ ends) cells (le, cut) = omega (arith, le, cut_le end ends cells cut)

-- a part of a list is one of the list when it has grown
part_kept : (cells more : List (Option Cell)) (start end : ℕ) → start ≤ end → end ≤ length cells → slice_range (cells ++ more) start end ≡ slice_range cells start end
part_kept cells more start end le within =
    ap (take (end - start)) (drop-append-le start cells more (omega arith))
    ∙ take-append-le (end - start) (drop start cells) more (omega (arith, length-drop start cells))

-- what was appended is the part behind the list
part_behind : (cells more : List (Option Cell)) → slice_range (cells ++ more) (length cells) (length (cells ++ more)) ≡ more
part_behind cells more =
    ap (take (length (cells ++ more) - length cells)) (drop_at cells more (length cells) refl)
    ∙ take_all (length (cells ++ more) - length cells) more (omega (arith, length-append cells more))

-- one more row, whose cells are appended
pub rows_push : (start : ℕ) (ends : List ℕ) (cells more : List (Option Cell)) → AreCut start ends cells
    → rows_from start (ends ++ length (cells ++ more) ∷ []) (cells ++ more) ≡ rows_from start ends cells ++ more ∷ []
rows_push start [] cells more cut = ap (λ part. part ∷ []) (ap (λ s. slice_range (cells ++ more) s (length (cells ++ more))) cut ∙ part_behind cells more)
rows_push start (end ∷ ends) cells more (le, cut) =
    ap (λ part. part ∷ rows_from end (ends ++ length (cells ++ more) ∷ []) (cells ++ more)) (part_kept cells more start end le (cut_le end ends cells cut))
    ∙ ap (λ rows. slice_range cells start end ∷ rows) (rows_push end ends cells more cut)

pub cut_push : (start : ℕ) (ends : List ℕ) (cells more : List (Option Cell)) → AreCut start ends cells → AreCut start (ends ++ length (cells ++ more) ∷ []) (cells ++ more)
cut_push start [] cells more cut = (omega (arith, cut, length-append cells more), refl)
cut_push start (end ∷ ends) cells more (le, cut) = (le, cut_push end ends cells more cut)

-- a row
pub rows_at : (start : ℕ) (ends : List ℕ) (cells : List (Option Cell)) (row d : ℕ) → row < length ends
    → slice_get (rows_from start ends cells) row ≡ Some (slice_range cells (start_at start ends row) (get_or ends row d))
rows_at start [] cells row d within = absurd (omega arith)
rows_at start (end ∷ ends) cells zero d within = refl
rows_at start (end ∷ ends) cells (suc row) d within = rows_at end ends cells row d (omega arith)

-- its cells begin where those before it end, and they stand within all
pub cut_at : (start : ℕ) (ends : List ℕ) (cells : List (Option Cell)) (row d : ℕ) → AreCut start ends cells → row < length ends
    → (start_at start ends row ≤ get_or ends row d) × (get_or ends row d ≤ length cells)
cut_at start [] cells row d cut within = absurd (omega arith)
cut_at start (end ∷ ends) cells zero d (le, cut) within = (le, cut_le end ends cells cut)
cut_at start (end ∷ ends) cells (suc row) d (le, cut) within = cut_at end ends cells row d cut (omega arith)

-- the cells of a row begin where those of the one before it end
start_next : (start : ℕ) (ends : List ℕ) (row d : ℕ) → row < length ends → get_or ends row d ≡ start_at start ends (suc row)
start_next start [] row d within = absurd (omega arith)
start_next start (end ∷ ends) zero d within = refl
start_next start (end ∷ ends) (suc row) d within = start_next end ends row d (omega arith)

pub start_behind : (start : ℕ) (ends : List ℕ) (row d : ℕ) → ¬ (row ≡ 0) → row ≤ length ends → get_or ends (row - 1) d ≡ start_at start ends row
start_behind start ends row d some within =
    let least : 0 < row = elim (cases_lt 0 row) [ inl more ↦ more | inr less ↦ absurd (some (omega arith)) ] in
    let next : suc (row - 1) ≡ row = omega (arith, least) in
    start_next start ends (row - 1) d (omega arith) ∙ ap (start_at start ends) next

-- ---- relationships

pub length_rels_of : (ends : List Ends) (rows : List (List (Option Cell))) → length ends ≡ length rows → length (rels_of ends rows) ≡ length ends
length_rels_of [] rows same = refl
length_rels_of (e ∷ ends) [] same = absurd (omega (arith, same))
length_rels_of (e ∷ ends) (row ∷ rows) same = omega (arith, length_rels_of ends rows (omega (arith, same)))

pub rels_push : (ends : List Ends) (rows : List (List (Option Cell))) (e : Ends) (row : List (Option Cell)) → length ends ≡ length rows
    → rels_of (ends ++ e ∷ []) (rows ++ row ∷ []) ≡ rels_of ends rows ++ record { source = e.source; target = e.target; cells = row } ∷ []
rels_push [] [] e row same = refl
rels_push [] (r ∷ rows) e row same = absurd (omega (arith, same))
rels_push (f ∷ ends) [] e row same = absurd (omega (arith, same))
rels_push (f ∷ ends) (r ∷ rows) e row same = ap (λ rels. record { source = f.source; target = f.target; cells = r } ∷ rels) (rels_push ends rows e row (omega (arith, same)))

pub rels_at : (ends : List Ends) (rows : List (List (Option Cell))) (number : ℕ) (d : Ends) (row : List (Option Cell)) → number < length ends → slice_get rows number ≡ Some row
    → slice_get (rels_of ends rows) number ≡ Some (record { source = (get_or ends number d).source; target = (get_or ends number d).target; cells = row })
rels_at [] rows number d row within is = absurd (omega arith)
rels_at (e ∷ ends) [] number d row within is = cc is
rels_at (e ∷ ends) (r ∷ rows) zero d row within is = cc is
rels_at (e ∷ ends) (r ∷ rows) (suc number) d row within is = rels_at ends rows number d row (omega arith) is
