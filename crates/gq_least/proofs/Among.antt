-- Numbers that are all among as many others: those are distinct, and are among them too.
use Rattle.std.proofs.Common.{◌≡◌, ◌≢◌, ◌∙◌, ap, sym, refl, subst, ℕ, zero, suc, ◌+◌, ◌<◌, ◌≤◌, Bool, true, false, ◌&&◌, ◌||◌, nat_eq, get_or, List, [], ◌∷◌, length, true≢false, inl, inr, arith}
use Rattle.std.specs.Prelude.{◌⊎◌}
use Rattle.std.specs.List.{All, list_all, list_any}
use Rattle.std.proofs.lemmas.Bool.{and_parts, eq-eqb, eqb-true, ne_eqb}
use Rattle.gq_least.specs.Laws.{AreDistinct}
use Rattle.gq_least.specs.Tables.{at}

abbrev pub is_among : List ℕ → ℕ → Bool
is_among ns u = list_any (λ v. nat_eq v u) ns

abbrev pub AreAmong : List ℕ → List ℕ → Type 0
AreAmong ms ns = (u : ℕ) → is_among ms u ≡ true → is_among ns u ≡ true

-- a list without the number at a place
without : ℕ → List ℕ → List ℕ
without i [] = []
without zero (x ∷ xs) = xs
without (suc i) (x ∷ xs) = x ∷ without i xs

fewer : (i : ℕ) (xs : List ℕ) → i < length xs → length (without i xs) + 1 ≡ length xs
unfolding without
fewer i [] lt = absurd (omega (arith, lt))
fewer zero (x ∷ xs) lt = omega arith
fewer (suc i) (x ∷ xs) lt = let h = fewer i xs (omega (arith, lt)) in omega (arith, h)

either : (b : Bool) → (b ≡ true) ⊎ (b ≡ false)
either true = inl refl
either false = inr refl

-- the number is the first, or among the others
module _ (x : ℕ) (xs : List ℕ) (u : ℕ) where
  first_or : is_among (x ∷ xs) u ≡ true → (x ≡ u) ⊎ (is_among xs u ≡ true)
  first_or h = go (nat_eq x u) refl h
    where
      go : (b : Bool) → nat_eq x u ≡ b → (b || is_among xs u) ≡ true → (x ≡ u) ⊎ (is_among xs u ≡ true)
      go true e h = inl (eqb-true x u e)
      go false e h = inr h

  is_first : x ≡ u → is_among (x ∷ xs) u ≡ true
  is_first e = ap (λ b. b || is_among xs u) (eq-eqb x u e)

  is_later : is_among xs u ≡ true → is_among (x ∷ xs) u ≡ true
  is_later h = go (nat_eq x u)
    where
      go : (b : Bool) → (b || is_among xs u) ≡ true
      go true = refl
      go false = h

-- a number that is not at the place stays
stays : (i : ℕ) (xs : List ℕ) (u : ℕ) → u ≢ at xs i → is_among xs u ≡ true → is_among (without i xs) u ≡ true
unfolding without
stays i [] u other h = h
stays zero (x ∷ xs) u other h = elim (first_or x xs u h) [ inl e ↦ absurd (other (sym e)) | inr k ↦ k ]
stays (suc i) (x ∷ xs) u other h = elim (first_or x xs u h) [
  | inl e ↦ is_first x (without i xs) u e
  | inr k ↦ is_later x (without i xs) u (stays i xs u other k)
]

-- what stands at a place is among the numbers, also without those at another place
stands : (i : ℕ) (xs : List ℕ) → i < length xs → is_among xs (at xs i) ≡ true
stands i [] lt = absurd (omega (arith, lt))
stands zero (x ∷ xs) lt = is_first x xs x refl
stands (suc i) (x ∷ xs) lt = is_later x xs (at xs i) (stands i xs (omega (arith, lt)))

stays_at : (i j : ℕ) (xs : List ℕ) → j ≢ i → j < length xs → is_among (without i xs) (at xs j) ≡ true
unfolding without
stays_at i j [] other lt = absurd (omega (arith, lt))
stays_at zero zero (x ∷ xs) other lt = absurd (other refl)
stays_at zero (suc j) (x ∷ xs) other lt = stands j xs (omega (arith, lt))
stays_at (suc i) zero (x ∷ xs) other lt = is_first x (without i xs) x refl
stays_at (suc i) (suc j) (x ∷ xs) other lt = is_later x (without i xs) (at xs j) (stays_at i j xs (λ e. other (ap suc e)) (omega (arith, lt)))

-- where a number stands
record Stands (xs : List ℕ) (u : ℕ) : Type 0 where
  place : ℕ
  within : place < length xs
  is : at xs place ≡ u

place_of : (xs : List ℕ) (u : ℕ) → is_among xs u ≡ true → Stands xs u
place_of [] u h = absurd (true≢false (sym h))
place_of (x ∷ xs) u h = elim (first_or x xs u h) [
  | inl e ↦ record { place = 0; within = omega arith; is = e }
  | inr k ↦ (let s = place_of xs u k in let lt = s.within in record { place = suc s.place; within = omega (arith, lt); is = s.is })
]

-- distinct numbers are no more than those that they are among
no_more : (ms ns : List ℕ) → AreDistinct ms → AreAmong ms ns → length ms ≤ length ns
no_more [] ns distinct among = omega arith
no_more (m ∷ ms) ns distinct among =
    let here = place_of ns m (among m (is_first m ms m refl)) in
    let rest = no_more ms (without here.place ns)
    (λ i j lt low e. let same : suc i ≡ suc j = distinct (suc i) (suc j) (omega (arith, lt)) (omega (arith, low)) e in omega (arith, same))
    (λ u h. stays here.place ns u
    (λ e. let s = place_of ms u h in let lt = s.within in
    let clash : suc s.place ≡ zero = distinct (suc s.place) zero (omega (arith, lt)) (omega arith) (s.is ∙ e ∙ here.is) in omega (arith, clash))
    (among u (is_later m ms u h))) in
    let less = fewer here.place ns here.within in
    omega (arith, rest, less)

module _ (ms ns : List ℕ) (distinct : AreDistinct ms) (among : AreAmong ms ns) (same : length ms ≡ length ns) where
  -- so none of those can be left out
  none_spare : (i : ℕ) → i < length ns → ¬ (AreAmong ms (without i ns))
  none_spare i lt spare = let few = no_more ms (without i ns) distinct spare in let less = fewer i ns lt in omega (arith, few, less, same)

  pub distinct_too : AreDistinct ns
  distinct_too = λ i j lt low e. go i j lt low e (nat_eq j i) refl
    where
      go : (i j : ℕ) → i < length ns → j < length ns → at ns i ≡ at ns j → (b : Bool) → nat_eq j i ≡ b → i ≡ j
      go i j lt low e true is = sym (eqb-true j i is)
      go i j lt low e false is = absurd (none_spare i lt (λ u h. by u h (nat_eq u (at ns i)) refl))
        where
          other : j ≢ i
          other same = absurd (true≢false (sym (eq-eqb j i same) ∙ is))

          by : (u : ℕ) → is_among ms u ≡ true → (b : Bool) → nat_eq u (at ns i) ≡ b → is_among (without i ns) u ≡ true
          by u h true here = subst (λ v. is_among (without i ns) v ≡ true) (sym e ∙ sym (eqb-true u (at ns i) here)) (stays_at i j ns other low)
          by u h false here = stays i ns u (λ same. true≢false (sym (eq-eqb u (at ns i) same) ∙ here)) (among u h)

  pub among_too : (i : ℕ) → i < length ns → is_among ms (at ns i) ≡ true
  among_too i lt = go (either (is_among ms (at ns i)))
    where
      go : (is_among ms (at ns i) ≡ true) ⊎ (is_among ms (at ns i) ≡ false) → is_among ms (at ns i) ≡ true
      go (inl among_them) = among_them
      go (inr not_there) = absurd (none_spare i lt (λ u h. stays i ns u (λ e. true≢false (sym h ∙ ap (is_among ms) e ∙ not_there)) (among u h)))

-- what is said of each place is said of all
index_same : (ns : List ℕ) (i d : ℕ) → i < length ns → at ns i ≡ get_or ns i d
index_same [] i d lt = absurd (omega (arith, lt))
index_same (n ∷ ns) zero d lt = refl
index_same (n ∷ ns) (suc i) d lt = index_same ns i d (omega (arith, lt))

pub all_at : (P : ℕ → Type 0) (ns : List ℕ) → ((i : ℕ) → i < length ns → P (at ns i)) → All P ns
all_at P ns h = λ i d lt. subst P (index_same ns i d lt) (h i lt)

-- and what is said of all is said of each number among them
pub of_among : (P : ℕ → Type 0) (ns : List ℕ) (u : ℕ) → All P ns → is_among ns u ≡ true → P u
of_among P ns u all h = let s = place_of ns u h in subst P (sym (index_same ns s.place 0 s.within) ∙ s.is) (all s.place 0 s.within)

-- a test of each of some numbers
pub each_of : (p : ℕ → Bool) (ms : List ℕ) (u : ℕ) → list_all p ms ≡ true → is_among ms u ≡ true → p u ≡ true
each_of p [] u all h = absurd (true≢false (sym h))
each_of p (m ∷ ms) u all h =
    let parts = and_parts (p m) (list_all p ms) all in
    elim (first_or m ms u h) [
      | inl e ↦ subst (λ v. p v ≡ true) e parts.0
      | inr k ↦ each_of p ms u parts.1 k
    ]

-- all of some numbers are among them
pub all_among : (ms ns : List ℕ) → AreAmong ms ns → list_all (is_among ns) ms ≡ true
all_among [] ns among = refl
all_among (m ∷ ms) ns among = rw (among m (is_first m ms m refl)) (all_among ms ns (λ u h. among u (is_later m ms u h)))
