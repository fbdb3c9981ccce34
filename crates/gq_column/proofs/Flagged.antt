-- Cells that stand as flags and as kept cells, one after the other.
use Rattle.std.proofs.Common.{◌≡◌, ℤ, pos, ◌+◌, Bool, true, false, cond, List, [], ◌∷◌, ◌++◌, length, map, Some, None, refl, sym, ap, ◌∙◌, arith, count_by}
use Rattle.std.specs.Prelude.{is_some}
use Rattle.std.proofs.lemmas.List.{length-append}
use Rattle.gq_column.specs.steps.Cells.{cells_of, flagged, kept_of}
use Rattle.gq_column.proofs.Ranked.{cells_of-kept_of, count-cons}

-- as many cells are kept as flags are set
abbrev Matches : List Bool → List ℤ → Type 0
Matches flags kept = length kept ≡ count_by (λ on. on) flags

count_more : (flags : List Bool) (b : Bool) → count_by (λ on. on) (flags ++ b ∷ []) ≡ count_by (λ on. on) flags + cond b 1 0
count_more [] b = (let none : count_by (λ (on : Bool). on) [] ≡ 0 = refl in omega (arith, count-cons b [], none))
count_more (f ∷ flags) b = omega (arith, count-cons f (flags ++ b ∷ []), count-cons f flags, count_more flags b)

pub matches_null : (flags : List Bool) (kept : List ℤ) → length kept ≡ count_by (λ on. on) flags → length kept ≡ count_by (λ on. on) (flags ++ false ∷ [])
matches_null flags kept m = omega (arith, m, count_more flags false)

pub matches_value : (flags : List Bool) (kept : List ℤ) (v : ℤ) → length kept ≡ count_by (λ on. on) flags → length (kept ++ v ∷ []) ≡ count_by (λ on. on) (flags ++ true ∷ [])
matches_value flags kept v m = omega (arith, m, count_more flags true, length-append kept (v ∷ []))

pub flagged_null : (flags : List Bool) (kept : List ℤ) → flagged (flags ++ false ∷ []) kept ≡ flagged flags kept ++ None ∷ []
flagged_null [] kept = refl
flagged_null (false ∷ flags) kept = ap (λ l. None ∷ l) (flagged_null flags kept)
flagged_null (true ∷ flags) [] = ap (λ l. None ∷ l) (flagged_null flags [])
flagged_null (true ∷ flags) (k ∷ kept) = ap (λ l. Some k ∷ l) (flagged_null flags kept)

pub flagged_value : (flags : List Bool) (kept : List ℤ) (v : ℤ) → length kept ≡ count_by (λ on. on) flags → flagged (flags ++ true ∷ []) (kept ++ v ∷ []) ≡ flagged flags kept ++ Some v ∷ []
flagged_value [] [] v m = refl
flagged_value [] (k ∷ kept) v m = (let none : count_by (λ (on : Bool). on) [] ≡ 0 = refl in absurd (omega (arith, m, none)))
flagged_value (false ∷ flags) kept v m = ap (λ l. None ∷ l) (flagged_value flags kept v (omega (arith, m, count-cons false flags)))
flagged_value (true ∷ flags) [] v m = absurd (omega (arith, m, count-cons true flags))
flagged_value (true ∷ flags) (k ∷ kept) v m = ap (λ l. Some k ∷ l) (flagged_value flags kept v (omega (arith, m, count-cons true flags)))

pub length-flagged : (flags : List Bool) (kept : List ℤ) → length (flagged flags kept) ≡ length flags
length-flagged [] kept = refl
length-flagged (false ∷ flags) kept = (let rest : length (flagged flags kept) ≡ length flags = length-flagged flags kept in omega arith)
length-flagged (true ∷ flags) [] = (let rest : length (flagged flags []) ≡ length flags = length-flagged flags [] in omega arith)
length-flagged (true ∷ flags) (k ∷ kept) = (let rest : length (flagged flags kept) ≡ length flags = length-flagged flags kept in omega arith)

flags_are : (flags : List Bool) (kept : List ℤ) → Matches flags kept → map (λ c. is_some c) (flagged flags kept) ≡ flags
flags_are [] kept m = refl
flags_are (false ∷ flags) kept m = ap (λ l. false ∷ l) (flags_are flags kept (omega (arith, m, count-cons false flags)))
flags_are (true ∷ flags) [] m = absurd (omega (arith, m, count-cons true flags))
flags_are (true ∷ flags) (k ∷ kept) m = ap (λ l. true ∷ l) (flags_are flags kept (omega (arith, m, count-cons true flags)))

kept_are : (flags : List Bool) (kept : List ℤ) → Matches flags kept → kept_of (flagged flags kept) ≡ kept
kept_are [] [] m = refl
kept_are [] (k ∷ kept) m = (let none : count_by (λ (on : Bool). on) [] ≡ 0 = refl in absurd (omega (arith, m, none)))
kept_are (false ∷ flags) kept m = kept_are flags kept (omega (arith, m, count-cons false flags))
kept_are (true ∷ flags) [] m = absurd (omega (arith, m, count-cons true flags))
kept_are (true ∷ flags) (k ∷ kept) m = ap (λ l. k ∷ l) (kept_are flags kept (omega (arith, m, count-cons true flags)))

-- the same cells by rank, with a 0 behind those that are kept
pub flagged_ranked : (flags : List Bool) (kept : List ℤ) → length kept ≡ count_by (λ on. on) flags → cells_of flags (kept ++ (pos 0 ∷ [])) ≡ flagged flags kept
flagged_ranked flags kept m =
    let cells = flagged flags kept in
    sym (ap (λ l. cells_of l (kept_of cells ++ (pos 0 ∷ []))) (flags_are flags kept m) ∙ ap (λ (l : List ℤ). cells_of flags (l ++ (pos 0 ∷ []))) (kept_are flags kept m)) ∙ cells_of-kept_of cells
