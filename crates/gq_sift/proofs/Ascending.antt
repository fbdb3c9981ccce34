-- The load numbers of the relationships that leave a row ascend.
use Rattle.std.proofs.Common.{◌≡◌, ◌≢◌, ◌⊎◌, inl, inr, ℕ, zero, suc, ◌+◌, ◌<◌, ◌≤◌, ◌==◌, false, Some, List, [], ◌∷◌, length, get_or, slice_get, refl, sym, ap, ◌∙◌, arith}
use Rattle.std.specs.List.{range_with_len}
use Rattle.std.proofs.lemmas.Bool.{cases_eq, cases_lt, eq-eqb, ne_eqb}
use Rattle.gq_adj.specs.Adjacent.{targets}
use Rattle.gq_sift.specs.steps.Candidates.{is_row, leads_to}

-- the numbers, from one on, of the pairs that leave a row
abbrev pub ids : ℕ → List ℕ → ℕ → List ℕ
ids row from first = targets row from (range_with_len first (length from))

-- a number stands before a list of greater ones
head_least : (first : ℕ) (xs : List ℕ) → ((k : ℕ) → k < length xs → first + 1 ≤ get_or xs k 0) → (i : ℕ) → i < length (first ∷ xs) → first ≤ get_or (first ∷ xs) i 0
head_least first xs more zero l = omega arith
head_least first xs more (suc k) l = let less = more k (omega (arith, l)) in omega (arith, less)

head_ascend : (first : ℕ) (xs : List ℕ) → ((k : ℕ) → k < length xs → first + 1 ≤ get_or xs k 0) → ((k m : ℕ) → k < m → m < length xs → get_or xs k 0 < get_or xs m 0)
    → (i j : ℕ) → i < j → j < length (first ∷ xs) → get_or (first ∷ xs) i 0 < get_or (first ∷ xs) j 0
head_ascend first xs more up i zero e l = absurd (omega (arith, e))
head_ascend first xs more up zero (suc m) e l = let less = more m (omega (arith, l)) in omega (arith, less)
head_ascend first xs more up (suc k) (suc m) e l = up k m (omega (arith, e)) (omega (arith, l))

least : (row : ℕ) (from : List ℕ) (first i : ℕ) → i < length (ids row from first) → first ≤ get_or (ids row from first) i 0
least row [] first i h = absurd (omega (arith, h))
least row (f ∷ fs) first i h = elim (cases_eq f row) [
  | inl same ↦
      let low : i < length (first ∷ ids row fs (first + 1)) = rw (eq-eqb f row same) at h in
      let more : (k : ℕ) → k < length (ids row fs (first + 1)) → first + 1 ≤ get_or (ids row fs (first + 1)) k 0 = λ k l. least row fs (first + 1) k l in
      rw (eq-eqb f row same) (head_least first (ids row fs (first + 1)) more i low)
  | inr other ↦
      let low : i < length (ids row fs (first + 1)) = rw (ne_eqb f row other) at h in
      let more = least row fs (first + 1) i low in
      rw (ne_eqb f row other) (omega (arith, more))
]

pub ascend : (row : ℕ) (from : List ℕ) (first i j : ℕ) → i < j → j < length (ids row from first) → get_or (ids row from first) i 0 < get_or (ids row from first) j 0
ascend row [] first i j less h = absurd (omega (arith, h))
ascend row (f ∷ fs) first i j less h = elim (cases_eq f row) [
  | inl same ↦
      let low : j < length (first ∷ ids row fs (first + 1)) = rw (eq-eqb f row same) at h in
      let up : (k m : ℕ) → k < m → m < length (ids row fs (first + 1)) → get_or (ids row fs (first + 1)) k 0 < get_or (ids row fs (first + 1)) m 0 = λ k m e l. ascend row fs (first + 1) k m e l in
      rw (eq-eqb f row same) (head_ascend first (ids row fs (first + 1)) (least row fs (first + 1)) up i j less low)
  | inr other ↦
      let low : j < length (ids row fs (first + 1)) = rw (ne_eqb f row other) at h in
      rw (ne_eqb f row other) (ascend row fs (first + 1) i j less low)
]

-- a number does not stand at a place where another one stands, nor past the end
pub not_there : (xs : List ℕ) (j n : ℕ) → (j < length xs → get_or xs j 0 ≢ n) → leads_to xs j n ≡ false
not_there [] j n other = refl
not_there (x ∷ xs) zero n other = ne_eqb x n (other (omega arith))
not_there (x ∷ xs) (suc j) n other = not_there xs j n (λ low. other (omega (arith, low)))

pub there : (xs : List ℕ) (j n : ℕ) → slice_get xs j ≡ Some n → (j < length xs) × (get_or xs j 0 ≡ n)
there [] j n e = cc
there (x ∷ xs) zero n e = let same : x ≡ n = cc in (omega arith, same)
there (x ∷ xs) (suc j) n e = let h = there xs j n e in (omega (arith, h.0), h.1)

-- a number that is looked for stands in no place before one, and in none from another one on
pub record IsNarrowed (xs : List ℕ) (first end number low high : ℕ) : Type 0 where
  pub first_low : first ≤ low
  pub high_end : high ≤ end
  pub before : (j : ℕ) → first ≤ j → j < low → get_or xs j 0 < number
  pub after : (j : ℕ) → high ≤ j → j < end → number < get_or xs j 0

module _ (row : ℕ) (from : List ℕ) (first end n : ℕ) where
  abbrev xs : List ℕ
  xs = ids row from 0

  module _ (low high : ℕ) (s : IsNarrowed xs first end n low high) where
    -- no place is left
    pub narrowed_none : high ≤ low → (j : ℕ) → first ≤ j → j < end → leads_to xs j n ≡ false
    narrowed_none none j one two = not_there xs j n (λ inside same. elim (cases_lt j low) [
      | inl less ↦ (let h = s.before j one less in omega (arith, h, same))
      | inr more ↦ (let h = s.after j (omega (arith, more, none)) two in omega (arith, h, same))
    ])

    module _ (m found : ℕ) (at : slice_get xs m ≡ Some found) (above : low ≤ m) (below : m < high) where
      -- what stands at or before a lesser one is less
      pub narrowed_up : found < n → IsNarrowed xs first end n (m + 1) high
      narrowed_up less = record {
        first_low = (let l = s.first_low in omega (arith, l, above));
        high_end = s.high_end;
        before = λ j one two. elim (cases_lt j m) [
          | inl less_place ↦ (let h = ascend row from 0 j m less_place (there xs m found at).0 in omega (arith, h, (there xs m found at).1, less))
          | inr more ↦ (let e : j ≡ m = omega (arith, two, more) in let h : get_or xs j 0 ≡ found = ap (λ k. get_or xs k 0) e ∙ (there xs m found at).1 in omega (arith, h, less))
        ];
        after = s.after;
      }

      -- what stands at or behind a greater one is greater
      pub narrowed_down : n < found → end ≤ length xs → IsNarrowed xs first end n low m
      narrowed_down more inside = record {
        first_low = s.first_low;
        high_end = (let h = s.high_end in omega (arith, h, below));
        before = s.before;
        after = λ j one two. elim (cases_lt m j) [
          | inl less_place ↦ (let h = ascend row from 0 m j less_place (omega (arith, two, inside)) in omega (arith, h, (there xs m found at).1, more))
          | inr less ↦ (let e : j ≡ m = omega (arith, one, less) in let h : get_or xs j 0 ≡ found = ap (λ k. get_or xs k 0) e ∙ (there xs m found at).1 in omega (arith, h, more))
        ];
      }

  -- a number stands in one place alone
  pub only_there : (m : ℕ) → slice_get xs m ≡ Some n → (j : ℕ) → leads_to xs j n ≡ (j == m)
  only_there m at j = elim (cases_eq j m) [
    | inl e ↦ ap (λ k. leads_to xs k n) e ∙ ap (is_row n) at ∙ eq-eqb n n refl ∙ sym (eq-eqb j m e)
    | inr other ↦ not_there xs j n (λ inside same. other_place j other inside same (cases_lt j m)) ∙ sym (ne_eqb j m other)
  ]
    where
      other_place : (j : ℕ) → j ≢ m → j < length xs → get_or xs j 0 ≡ n → (j < m) ⊎ (m ≤ j) → ⊥
      other_place j other inside same (inl less) = (let h = ascend row from 0 j m less (there xs m n at).0 in omega (arith, h, same, (there xs m n at).1))
      other_place j other inside same (inr more) = (let h = ascend row from 0 m j (omega (arith, more, other)) inside in omega (arith, h, same, (there xs m n at).1))

  pub narrowed_from : IsNarrowed xs first end n first end
  narrowed_from = record {
    first_low = omega arith;
    high_end = omega arith;
    before = λ j one two. absurd (omega (arith, one, two));
    after = λ j one two. absurd (omega (arith, one, two));
  }
