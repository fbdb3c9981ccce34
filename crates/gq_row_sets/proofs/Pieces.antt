-- Rows in pieces, of which it is told of one after another.
use Rattle.std.proofs.Common.{◌≡◌, ℕ, ◌+◌, ◌-◌, ◌/◌, ◌%◌, ◌<◌, ◌≤◌, ◌++◌, ◌∷◌, [], min, List, Bool, false, length, get_or, take, sym, ap, ◌∙◌, arith, inl, inr}
use Rattle.std.proofs.Math.Seq.{get_or-append_seam}
use Rattle.std.proofs.lemmas.Bool.{cases_lt}
use Rattle.std.proofs.lemmas.List.{get_or-append_right, get_or-take, get_or_append_left, get_or_default, length-append, length-take, same_lists}
use Rattle.std.proofs.lemmas.List.FromFn.{length-map-range_with_len, get_or-map-range_with_len}
use Rattle.gq_bits.specs.Places.{is_marked}
use Rattle.gq_bits.specs.declared.TheConstants.{VECTOR}
use Rattle.gq_row_sets.specs.steps.Pieces.{in_pieces, first_rows, AreTold}

pub length-first_rows : (n : ℕ) (pieces : List (List Bool)) → length (first_rows n pieces) ≡ n
length-first_rows n pieces = length-map-range_with_len (in_pieces pieces) 0 n

pub get_or-first_rows : (n : ℕ) (pieces : List (List Bool)) (row : ℕ) (d : Bool) → row < n → get_or (first_rows n pieces) row d ≡ in_pieces pieces row
get_or-first_rows n pieces row d h = get_or-map-range_with_len (in_pieces pieces) 0 n row row d h (omega arith)

-- where the next piece ends, by what is told
pub end_is : (rows told : ℕ) (pieces : List (List Bool)) → AreTold rows told pieces → (end : ℕ) → end ≡ min rows (length (first_rows told pieces) + VECTOR) → end ≡ told + min (rows - told) VECTOR
end_is rows told pieces are end is = (let long = length-first_rows told pieces in omega (arith, are, is, long))

-- a piece more
module _ (rows told : ℕ) (pieces : List (List Bool)) (marks : List Bool) (are : AreTold rows told pieces) (whole : length marks ≡ VECTOR) (end : ℕ) (next : end ≡ told + min (rows - told) VECTOR) where
  pub still_told : AreTold rows end (pieces ++ marks ∷ [])
  still_told = (let long = length-append pieces (marks ∷ []) in omega (arith, are, next, long))

  before : (row : ℕ) → row < told → in_pieces (pieces ++ marks ∷ []) row ≡ in_pieces pieces row
  before row h = ap (λ m. is_marked m (row % VECTOR)) (get_or_append_left pieces (marks ∷ []) [] (row / VECTOR) (omega (arith, h, are)))

  behind : (row : ℕ) → told ≤ row → row < end → in_pieces (pieces ++ marks ∷ []) row ≡ is_marked marks (row - told)
  behind row low high =
      (let piece : row / VECTOR ≡ length pieces = omega (arith, low, high, are, next) in
      let place : row % VECTOR ≡ row - told = omega (arith, low, high, are, next) in
      ap (λ n. is_marked (get_or (pieces ++ marks ∷ []) n []) (row % VECTOR)) piece
      ∙ ap (λ m. is_marked m (row % VECTOR)) (get_or-append_seam pieces marks [] [])
      ∙ ap (is_marked marks) place)

  pub told_more : first_rows end (pieces ++ marks ∷ []) ≡ first_rows told pieces ++ take (end - told) marks
  told_more = same_lists (first_rows end (pieces ++ marks ∷ [])) (first_rows told pieces ++ take (end - told) marks)
      (let new = length-first_rows end (pieces ++ marks ∷ []) in
      let old = length-first_rows told pieces in
      let both = length-append (first_rows told pieces) (take (end - told) marks) in
      let part = length-take (end - told) marks in
      omega (arith, new, old, both, part, whole, next))
      (λ row d h.
      let high : row < end = (let new = length-first_rows end (pieces ++ marks ∷ []) in omega (arith, h, new)) in
      let old = length-first_rows told pieces in
      get_or-first_rows end (pieces ++ marks ∷ []) row d high ∙ elim (cases_lt row told) [
        | inl low ↦ before row low ∙ sym (get_or_append_left (first_rows told pieces) (take (end - told) marks) d row (omega (arith, low, old)) ∙ get_or-first_rows told pieces row d low)
        | inr late ↦ behind row late high
            ∙ sym (get_or-append_right (first_rows told pieces) (take (end - told) marks) told row d old late
            ∙ get_or-take (end - told) marks (row - told) d (omega (arith, late, high))
            ∙ get_or_default marks (row - told) d false (omega (arith, late, high, next, whole)))
      ])
