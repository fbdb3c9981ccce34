-- The places of numbers in an order of all numbers.
use Rattle.std.proofs.Common.{◌≡◌, ◌≢◌, ℕ, zero, suc, ◌+◌, ◌<◌, ◌≤◌, ◌⊎◌, true, List, [], ◌∷◌, ◌++◌, length, get_or, set, eqb, eq-eqb, refl, sym, ap, ◌∙◌, subst, arith, inl, inr}
use Rattle.std.proofs.Math.Bool.{or-true}
use Rattle.std.specs.Prelude.{◌||◌, All}
use Rattle.std.specs.List.{concat, list_any, range_with_len}
use Rattle.std.proofs.lemmas.Bool.{cases_eq}
use Rattle.std.proofs.lemmas.List.{length-set, get_or-set_same, get_or-set_other, get_or_default, map-id}
use Rattle.std.proofs.lemmas.List.FromFn.{length-range_with_len, get_or-range_with_len, map-range_with_len_more}
use Rattle.std.proofs.lemmas.Map.Steps.{le-length_from_below}
use Rattle.gq_adj.proofs.Members.{lists-reach, lists-hold}
use Rattle.gq_edges.specs.Order.{numbers_of}
use Rattle.gq_edges.specs.steps.Order.{IsPlaceOf}

-- the numbers at the first n places have their places
pub record Placed (n : ℕ) (order places : List ℕ) : Type 0 where
  pub len : length places ≡ length order
  pub placed : (p : ℕ) → p < n → (get_or places (get_or order p 0) 0 < n) × (get_or order (get_or places (get_or order p 0) 0) 0 ≡ get_or order p 0)

pub placed_more : (n : ℕ) (order places : List ℕ) → Placed n order places → get_or order n 0 < length order → Placed (n + 1) order (set places (get_or order n 0) n)
placed_more n order places s inside = record {
  len = length-set places o n ∙ s.len;
  placed = λ p h. elim (cases_eq (get_or order p 0) o) [
    | inl same ↦ subst (λ u. (get_or (set places o n) u 0 < n + 1) × (get_or order (get_or (set places o n) u 0) 0 ≡ u)) (sym same) (omega (arith, now), ap (λ j. get_or order j 0) now)
    | inr other ↦
        (let keep : get_or (set places o n) (get_or order p 0) 0 ≡ get_or places (get_or order p 0) 0 = get_or-set_other places o (get_or order p 0) n 0 other in
        let before : p < n = lower p h other in
        let had = s.placed p before in
        (omega (arith, keep, had.0), ap (λ j. get_or order j 0) keep ∙ had.1))
  ];
}
  where
    o : ℕ
    o = get_or order n 0

    now : get_or (set places (get_or order n 0) n) (get_or order n 0) 0 ≡ n
    now = get_or-set_same places (get_or order n 0) n 0 (omega (arith, s.len, inside))

    lower : (p : ℕ) → p < n + 1 → get_or order p 0 ≢ get_or order n 0 → p < n
    lower p h other = elim (cases_eq p n) [ inl same ↦ absurd (other (ap (λ j. get_or order j 0) same)) | inr ne ↦ omega (arith, ne) ]

pub placed_all : (order places : List ℕ) (n : ℕ) → n ≡ length order → Placed n order places → All (λ number. IsPlaceOf order number (get_or places number 0)) order
placed_all order places n all s k d h =
    let had = s.placed k (omega arith) in
    subst (λ number. IsPlaceOf order number (get_or places number 0)) (get_or_default order k 0 d h) (record { within = omega (arith, had.0); there = had.1 })

one_length : (from : List ℕ) → length from ≡ length (range_with_len 0 (length from))
one_length from = sym (length-range_with_len 0 (length from))

-- the order holds numbers of relationships
pub order_holds : (n : ℕ) (from : List ℕ) → length (concat (numbers_of n from)) ≡ length from → All (λ number. number < length (concat (numbers_of n from))) (concat (numbers_of n from))
order_holds n from size k d h =
    let order : List ℕ = concat (numbers_of n from) in
    let f = lists-hold n from (range_with_len 0 (length from)) k (one_length from) h in
    let low : f.at < length from = (let w : f.at < length (range_with_len 0 (length from)) = f.within in omega (arith, one_length from)) in
    let is : get_or order k d ≡ f.at = get_or_default order k d 0 h ∙ sym f.is ∙ get_or-range_with_len 0 (length from) f.at 0 low ∙ zero_plus f.at in
    omega (arith, is, low, size)
  where
    zero_plus : (m : ℕ) → 0 + m ≡ m
    zero_plus m = omega arith

-- and each of them
pub order_reaches : (n : ℕ) (from places : List ℕ) → All (λ v. v < n) from → length (concat (numbers_of n from)) ≡ length from → length places ≡ length (concat (numbers_of n from)) →
    All (λ number. IsPlaceOf (concat (numbers_of n from)) number (get_or places number 0)) (concat (numbers_of n from)) → (number : ℕ) → number < length places →
    IsPlaceOf (concat (numbers_of n from)) number (get_or places number 0)
order_reaches n from places below size len all number h =
    let order : List ℕ = concat (numbers_of n from) in
    let low : number < length from = omega (arith, size, len) in
    let f = lists-reach n from (range_with_len 0 (length from)) number (one_length from) below low in
    let zero_plus : 0 + number ≡ number = omega arith in
    let is : get_or order f.at 0 ≡ number = f.is ∙ get_or-range_with_len 0 (length from) number 0 low ∙ zero_plus in
    subst (λ m. IsPlaceOf order m (get_or places m 0)) is (all f.at 0 f.within)

pub range_more : (n : ℕ) → range_with_len 0 (n + 1) ≡ range_with_len 0 n ++ n ∷ []
range_more n =
    let zero_plus : 0 + n ≡ n = omega arith in
    sym (map-id (range_with_len 0 (n + 1))) ∙ map-range_with_len_more (λ m. m) 0 n n zero_plus ∙ ap (λ l. l ++ n ∷ []) (map-id (range_with_len 0 n))

-- ---- an order that has each number below its length has none twice

without : List ℕ → ℕ → List ℕ
without [] p = []
without (x ∷ xs) zero = xs
without (x ∷ xs) (suc p) = x ∷ without xs p

length-without : (xs : List ℕ) (p : ℕ) → p < length xs → length (without xs p) + 1 ≡ length xs
unfolding without
length-without [] p h = absurd (omega arith)
length-without (x ∷ xs) zero h = omega arith
length-without (x ∷ xs) (suc p) h = let k = length-without xs p (omega arith) in omega arith

here : (q x : ℕ) (xs : List ℕ) → x ≡ q → (eqb q x || list_any (eqb q) xs) ≡ true
here q x xs e = rw (eq-eqb q x (sym e)) refl

later : (q x : ℕ) (xs : List ℕ) → list_any (eqb q) xs ≡ true → (eqb q x || list_any (eqb q) xs) ≡ true
later q x xs e = rw e (or-true (eqb q x))

stands : (xs : List ℕ) (at q : ℕ) → at < length xs → get_or xs at 0 ≡ q → list_any (eqb q) xs ≡ true
stands [] at q h e = absurd (omega arith)
stands (x ∷ xs) zero q h e = here q x xs e
stands (x ∷ xs) (suc at) q h e = later q x xs (stands xs at q (omega arith) e)

-- what stands elsewhere stays
stands_without : (xs : List ℕ) (p at q : ℕ) → at < length xs → at ≢ p → get_or xs at 0 ≡ q → list_any (eqb q) (without xs p) ≡ true
unfolding without
stands_without [] p at q h other e = absurd (omega arith)
stands_without (x ∷ xs) zero zero q h other e = absurd (other refl)
stands_without (x ∷ xs) zero (suc at) q h other e = stands xs at q (omega arith) e
stands_without (x ∷ xs) (suc p) zero q h other e = here q x (without xs p) e
stands_without (x ∷ xs) (suc p) (suc at) q h other e = later q x (without xs p) (stands_without xs p at q (omega arith) (λ same. other (ap suc same)) e)

-- where each number has its place, each place is that of its number
pub one_place : (order places : List ℕ) → ((number : ℕ) → number < length order → IsPlaceOf order number (get_or places number 0)) → (place : ℕ) → place < length order
    → get_or places (get_or order place 0) 0 ≡ place
one_place order places placed place within = elim (cases_eq (get_or places (get_or order place 0) 0) place) [
  | inl same ↦ same
  | inr other ↦
      let all : length order ≤ length (without order place) = le-length_from_below (without order place) (length order) (λ q low. left other q low (cases_eq (get_or places q 0) place)) in
      absurd (omega (arith, all, length-without order place within))
]
  where
    -- a number that the list without that place lacks would be the one there
    left : get_or places (get_or order place 0) 0 ≢ place → (q : ℕ) → q < length order → (get_or places q 0 ≡ place) ⊎ (get_or places q 0 ≢ place) → list_any (eqb q) (without order place) ≡ true
    left other q low (inl same) =
        let is : get_or order place 0 ≡ q = ap (λ p. get_or order p 0) (sym same) ∙ (placed q low).there in
        absurd (other (ap (λ number. get_or places number 0) is ∙ same))
    left other q low (inr far) = stands_without order place (get_or places q 0) q (placed q low).within far (placed q low).there
