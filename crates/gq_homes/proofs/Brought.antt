-- Where what a join brings lives: the node variables of its build that are no keys, and its relationships.
use Rattle.std.proofs.Common.{◌≡◌, ◌⊎◌, inl, inr, ℕ, zero, suc, ◌+◌, ◌<◌, ◌≤◌, Bool, true, false, ◌&&◌, ◌||◌, cond, nat_eq, List, [], ◌∷◌, ◌++◌, filter, length, get_or, set, refl, sym, ap, ◌∙◌, arith, true≢false}
use Rattle.std.specs.List.{range_with_len, AllByRecursion}
use Rattle.std.proofs.lemmas.Bool.{or_cases, cases_eq, eq-eqb, eqb-true, ne_eqb}
use Rattle.std.proofs.lemmas.List.{get_or-set_same, get_or-set_other, length-set}
use Rattle.gq_join.specs.Kept.{place_of}
use Rattle.gq_homes.specs.steps.Housing.{set_numbered}
use Rattle.gq_steps.proofs.Joining.{has}

-- ---- lists that are filtered

pub filter_twice : (p q : ℕ → Bool) (xs : List ℕ) → filter q (filter p xs) ≡ filter (λ v. p v && q v) xs
filter_twice p q [] = refl
filter_twice p q (x ∷ xs) = go (p x) (filter_twice p q xs)
  where
    both : (b : Bool) → filter q (filter p xs) ≡ filter (λ v. p v && q v) xs → cond b (x ∷ filter q (filter p xs)) (filter q (filter p xs)) ≡ cond b (x ∷ filter (λ v. p v && q v) xs) (filter (λ v. p v && q v) xs)
    both true e = ap (λ l. x ∷ l) e
    both false e = e

    go : (a : Bool) → filter q (filter p xs) ≡ filter (λ v. p v && q v) xs → filter q (cond a (x ∷ filter p xs) (filter p xs)) ≡ cond (a && q x) (x ∷ filter (λ v. p v && q v) xs) (filter (λ v. p v && q v) xs)
    go true e = both (q x) e
    go false e = e

-- what is left has passed
pub has_passes : (p : ℕ → Bool) (xs : List ℕ) (v : ℕ) → has (filter p xs) v ≡ true → p v ≡ true
has_passes p [] v h = absurd (true≢false (sym h))
has_passes p (x ∷ xs) v h = go (p x) refl h (λ more. has_passes p xs v more)
  where
    go : (b : Bool) → p x ≡ b → has (cond b (x ∷ filter p xs) (filter p xs)) v ≡ true → (has (filter p xs) v ≡ true → p v ≡ true) → p v ≡ true
    go false is h rest = rest h
    go true is h rest = one (or_cases (nat_eq x v) (has (filter p xs) v) h)
      where
        one : (nat_eq x v ≡ true) ⊎ (has (filter p xs) v ≡ true) → p v ≡ true
        one (inl same) = ap p (sym (eqb-true x v same)) ∙ is
        one (inr more) = rest more

-- the place of a number in a part of a range
low_first : (p : ℕ → Bool) (a n k : ℕ) → k < length (filter p (range_with_len a n)) → a ≤ get_or (filter p (range_with_len a n)) k 0
low_first p a zero k low = absurd (omega (arith, low))
low_first p a (suc n) k low = go (p a) k low (λ k low. low_first p (a + 1) n k low)
  where
    go : (b : Bool) (k : ℕ) → k < length (cond b (a ∷ filter p (range_with_len (a + 1) n)) (filter p (range_with_len (a + 1) n)))
        → ((k : ℕ) → k < length (filter p (range_with_len (a + 1) n)) → a + 1 ≤ get_or (filter p (range_with_len (a + 1) n)) k 0)
        → a ≤ get_or (cond b (a ∷ filter p (range_with_len (a + 1) n)) (filter p (range_with_len (a + 1) n))) k 0
    go true zero low rest = omega arith
    go true (suc k) low rest = let more = rest k (omega (arith, low)) in omega (arith, more)
    go false k low rest = let more = rest k low in omega (arith, more)

pub place_is : (p : ℕ → Bool) (a n k : ℕ) → k < length (filter p (range_with_len a n)) → place_of (filter p (range_with_len a n)) (get_or (filter p (range_with_len a n)) k 0) ≡ k
place_is p a zero k low = absurd (omega (arith, low))
place_is p a (suc n) k low = go (p a) k low (λ k low. low_first p (a + 1) n k low) (λ k low. place_is p (a + 1) n k low)
  where
    go : (b : Bool) (k : ℕ) → k < length (cond b (a ∷ filter p (range_with_len (a + 1) n)) (filter p (range_with_len (a + 1) n)))
        → ((k : ℕ) → k < length (filter p (range_with_len (a + 1) n)) → a + 1 ≤ get_or (filter p (range_with_len (a + 1) n)) k 0)
        → ((k : ℕ) → k < length (filter p (range_with_len (a + 1) n)) → place_of (filter p (range_with_len (a + 1) n)) (get_or (filter p (range_with_len (a + 1) n)) k 0) ≡ k)
        → place_of (cond b (a ∷ filter p (range_with_len (a + 1) n)) (filter p (range_with_len (a + 1) n))) (get_or (cond b (a ∷ filter p (range_with_len (a + 1) n)) (filter p (range_with_len (a + 1) n))) k 0) ≡ k
    go true zero low above rest = rw (eq-eqb a a refl) refl
    go true (suc k) low above rest =
        let more = above k (omega (arith, low)) in
        rw (ne_eqb a (get_or (filter p (range_with_len (a + 1) n)) k 0) (λ e. omega (arith, more, e))) (ap suc (rest k (omega (arith, low))))
    go false k low above rest = rest k low

-- what holds of each number of a range that passes
pub each_passes : (P : ℕ → Type 0) (p : ℕ → Bool) (a n : ℕ) → ((v : ℕ) → v < a + n → p v ≡ true → P v) → AllByRecursion P (filter p (range_with_len a n))
each_passes P p a zero f = tt
each_passes P p a (suc n) f = go (p a) refl (each_passes P p (a + 1) n (λ v low e. f v (omega (arith, low)) e))
  where
    go : (b : Bool) → p a ≡ b → AllByRecursion P (filter p (range_with_len (a + 1) n)) → AllByRecursion P (cond b (a ∷ filter p (range_with_len (a + 1) n)) (filter p (range_with_len (a + 1) n)))
    go true e more = (f a (omega arith) e, more)
    go false e more = more

-- ---- variables with homes of their own

module _ {X : Type 0} (f : ℕ → X) (d : X) where
  pub length-numbered : (n : ℕ) (vs : List ℕ) (os : List X) → length (set_numbered f n vs os) ≡ length os
  length-numbered n [] os = refl
  length-numbered n (v ∷ vs) os = length-numbered (n + 1) vs (set os v (f n)) ∙ length-set os v (f n)

  pub numbered_push : (n : ℕ) (vs : List ℕ) (v : ℕ) (os : List X) → set_numbered f n (vs ++ v ∷ []) os ≡ set (set_numbered f n vs os) v (f (n + length vs))
  numbered_push n [] v os = let e : n ≡ n + 0 = omega arith in ap (λ m. set os v (f m)) e
  numbered_push n (w ∷ vs) v os =
      let e : n + 1 + length vs ≡ n + suc (length vs) = omega arith in
      numbered_push (n + 1) vs v (set os w (f n)) ∙ ap (λ m. set (set_numbered f (n + 1) vs (set os w (f n))) v (f m)) e

  -- another variable
  pub numbered_other : (n : ℕ) (vs : List ℕ) (os : List X) (v : ℕ) → has vs v ≡ false → get_or (set_numbered f n vs os) v d ≡ get_or os v d
  numbered_other n [] os v h = refl
  numbered_other n (w ∷ vs) os v h = go (cases_eq w v) (λ none. numbered_other (n + 1) vs (set os w (f n)) v none)
    where
      go : (w ≡ v) ⊎ (w ≡ v → ⊥) → (has vs v ≡ false → get_or (set_numbered f (n + 1) vs (set os w (f n))) v d ≡ get_or (set os w (f n)) v d) → get_or (set_numbered f (n + 1) vs (set os w (f n))) v d ≡ get_or os v d
      go (inl same) rest = absurd (true≢false (sym (ap (λ b. b || has vs v) (eq-eqb w v same)) ∙ h))
      go (inr other) rest = rest (ap (λ b. b || has vs v) (sym (ne_eqb w v other)) ∙ h) ∙ get_or-set_other os w v (f n) d (λ e. other (sym e))

  -- one of them
  pub record IsNumbered (n : ℕ) (vs : List ℕ) (os : List X) (v : ℕ) : Type 0 where
    pub place : ℕ
    pub low : place < length vs
    pub is : get_or vs place 0 ≡ v
    pub home : get_or os v d ≡ f (n + place)

  pub numbered_at : (n : ℕ) (vs : List ℕ) (os : List X) (v : ℕ) → v < length os → has vs v ≡ true → IsNumbered n vs (set_numbered f n vs os) v
  numbered_at n [] os v inside h = absurd (true≢false (sym h))
  numbered_at n (w ∷ vs) os v inside h = go (has vs v) refl (or_cases (nat_eq w v) (has vs v) h) (λ low more. numbered_at (n + 1) vs (set os w (f n)) v low more)
    where
      go : (b : Bool) → has vs v ≡ b → (nat_eq w v ≡ true) ⊎ (has vs v ≡ true) → (v < length (set os w (f n)) → has vs v ≡ true → IsNumbered (n + 1) vs (set_numbered f (n + 1) vs (set os w (f n))) v)
          → IsNumbered n (w ∷ vs) (set_numbered f (n + 1) vs (set os w (f n))) v
      go true more either rest =
          let many = length-set os w (f n) in
          let r : IsNumbered (n + 1) vs (set_numbered f (n + 1) vs (set os w (f n))) v = rest (omega (arith, inside, many)) more in
          let low = r.low in
          let e : n + 1 + r.place ≡ n + suc r.place = omega arith in
          record { place = suc r.place; low = omega (arith, low); is = r.is; home = r.home ∙ ap f e }
      go false none (inr more) rest = absurd (true≢false (sym more ∙ none))
      go false none (inl same) rest =
          let is : w ≡ v = eqb-true w v same in
          let e : n ≡ n + 0 = omega arith in
          record {
            place = 0;
            low = omega arith;
            is = is;
            home = numbered_other (n + 1) vs (set os w (f n)) v none
                ∙ ap (λ u. get_or (set os w (f n)) u d) (sym is) ∙ get_or-set_same os w (f n) d (omega (arith, inside, is))
                ∙ ap f e;
          }

-- what one of them has it has by its place, and so it lives nowhere else
pub numbered_only : {X : Type 0} (f : ℕ → X) (d : X) (n : ℕ) (vs : List ℕ) (os : List X) (v : ℕ) → v < length os → (get_or (set_numbered f n vs os) v d ≡ get_or os v d) ⊎ IsNumbered f d n vs (set_numbered f n vs os) v
numbered_only f d n vs os v inside = go (has vs v) refl
  where
    go : (b : Bool) → has vs v ≡ b → (get_or (set_numbered f n vs os) v d ≡ get_or os v d) ⊎ IsNumbered f d n vs (set_numbered f n vs os) v
    go true e = inr (numbered_at f d n vs os v inside e)
    go false e = inl (numbered_other f d n vs os v e)

pub has_own : (vs : List ℕ) (k : ℕ) → k < length vs → has vs (get_or vs k 0) ≡ true
has_own [] k low = absurd (omega (arith, low))
has_own (v ∷ vs) zero low = ap (λ b. b || has vs v) (eq-eqb v v refl)
has_own (v ∷ vs) (suc k) low = go (nat_eq v (get_or vs k 0)) (has_own vs k (omega (arith, low)))
  where
    go : (b : Bool) → has vs (get_or vs k 0) ≡ true → (b || has vs (get_or vs k 0)) ≡ true
    go true more = refl
    go false more = more

pub no_more : (b : Bool) → (b || false) ≡ b
no_more true = refl
no_more false = refl
