-- Tests of all and of some items of lists: over joined lists, filters, ranges, permutations and lists of numbers.
use Rattle.std.proofs.Common.{◌≡◌, ℕ, zero, suc, ◌+◌, ◌<◌, ◌≤◌, Bool, true, false, not, ◌&&◌, ◌||◌, cond, ltb, nat_eq, List, [], ◌∷◌, map, filter, IsPermutation, ◌⊎◌, inl, inr, refl, sym, ap, ◌∙◌, arith, true≢false}
use Rattle.std.specs.List.{range_with_len, list_all, list_any}
use Rattle.std.proofs.lemmas.Bool.{eqb-true, eq-eqb, ne_eqb, lt-ltb, le-ltb, cases_eq, and_parts, or_cases}
use Rattle.std.proofs.lemmas.List.Sorted.{list_any-IsPermutation}
use Rattle.gq_plan.specs.Soundness.{has_number}

pub list_any_map : {X Y : Type 0} (p : Y → Bool) (f : X → Y) (xs : List X) → list_any p (map f xs) ≡ list_any (λ x. p (f x)) xs
list_any_map p f [] = refl
list_any_map p f (x ∷ xs) = ap (λ b. p (f x) || b) (list_any_map p f xs)

pub any_none : {X : Type 0} (xs : List X) → list_any (λ x. false) xs ≡ false
any_none [] = refl
any_none (x ∷ xs) = any_none xs

-- what a filter drops may be dropped where it passes the second test
pub all_dropped : {X : Type 0} (p q : X → Bool) → ((x : X) → p x ≡ false → q x ≡ true) → (xs : List X) → list_all q (filter p xs) ≡ list_all q xs
all_dropped p q out [] = refl
all_dropped p q out (x ∷ xs) = go (p x) refl (all_dropped p q out xs)
  where
    go : (b : Bool) → p x ≡ b → list_all q (filter p xs) ≡ list_all q xs → list_all q (cond b (x ∷ filter p xs) (filter p xs)) ≡ (q x && list_all q xs)
    go true e more = ap (λ b. q x && b) more
    go false e more = more ∙ ap (λ b. b && list_all q xs) (sym (out x e))

-- or where it fails it
pub any_dropped : {X : Type 0} (p q : X → Bool) → ((x : X) → p x ≡ false → q x ≡ false) → (xs : List X) → list_any q (filter p xs) ≡ list_any q xs
any_dropped p q out [] = refl
any_dropped p q out (x ∷ xs) = go (p x) refl (any_dropped p q out xs)
  where
    go : (b : Bool) → p x ≡ b → list_any q (filter p xs) ≡ list_any q xs → list_any q (cond b (x ∷ filter p xs) (filter p xs)) ≡ (q x || list_any q xs)
    go true e more = ap (λ b. q x || b) more
    go false e more = more ∙ ap (λ b. b || list_any q xs) (sym (out x e))

-- a filter asks no more than one test after another
pub all_kept : {X : Type 0} (p q : X → Bool) (xs : List X) → list_all q (filter p xs) ≡ list_all (λ x. not (p x) || q x) xs
all_kept p q [] = refl
all_kept p q (x ∷ xs) = go (p x) (all_kept p q xs)
  where
    go : (b : Bool) → list_all q (filter p xs) ≡ list_all (λ x. not (p x) || q x) xs → list_all q (cond b (x ∷ filter p xs) (filter p xs)) ≡ ((not b || q x) && list_all (λ x. not (p x) || q x) xs)
    go true more = ap (λ b. q x && b) more
    go false more = more

pub all_and : {X : Type 0} (p q : X → Bool) (xs : List X) → (list_all p xs && list_all q xs) ≡ list_all (λ x. p x && q x) xs
all_and p q [] = refl
all_and p q (x ∷ xs) = go (p x) (q x) (list_all p xs) (list_all q xs) ∙ ap (λ b. (p x && q x) && b) (all_and p q xs)
  where
    go : (a b c d : Bool) → ((a && c) && (b && d)) ≡ ((a && b) && (c && d))
    go true true c d = refl
    go true false true d = refl
    go true false false d = refl
    go false b c d = refl

all_any : {X : Type 0} (p : X → Bool) (xs : List X) → list_all p xs ≡ not (list_any (λ x. not (p x)) xs)
all_any p [] = refl
all_any p (x ∷ xs) = ap (λ b. p x && b) (all_any p xs) ∙ go (p x) (list_any (λ x. not (p x)) xs)
  where
    go : (b c : Bool) → (b && not c) ≡ not (not b || c)
    go true c = refl
    go false c = refl

pub all_permuted : {X : Type 0} (p : X → Bool) (xs ys : List X) → IsPermutation xs ys → list_all p xs ≡ list_all p ys
all_permuted p xs ys h = all_any p xs ∙ ap not (list_any-IsPermutation (λ x. not (p x)) xs ys h) ∙ sym (all_any p ys)

-- a number is one of a range where it is below its end
pub range_any : (v a n : ℕ) → a ≤ v → list_any (λ w. nat_eq v w) (range_with_len a n) ≡ ltb v (a + n)
range_any v a zero h = sym (le-ltb v (a + 0) (omega arith))
range_any v a (suc n) h = go (range_any v (a + 1) n) (cases_eq v a)
  where
    go : (a + 1 ≤ v → list_any (λ w. nat_eq v w) (range_with_len (a + 1) n) ≡ ltb v (a + 1 + n)) → (v ≡ a) ⊎ (v ≡ a → ⊥) → (nat_eq v a || list_any (λ w. nat_eq v w) (range_with_len (a + 1) n)) ≡ ltb v (a + suc n)
    go more (inl e) = ap (λ b. b || list_any (λ w. nat_eq v w) (range_with_len (a + 1) n)) (eq-eqb v a e) ∙ sym (lt-ltb v (a + suc n) (omega arith))
    go more (inr e) = ap (λ b. b || list_any (λ w. nat_eq v w) (range_with_len (a + 1) n)) (ne_eqb v a e) ∙ more (omega arith) ∙ ap (ltb v) (omega arith)

-- what passes for all numbers of a range passes for each
pub range_all : (p : ℕ → Bool) (a n : ℕ) → list_all p (range_with_len a n) ≡ true → (k : ℕ) → k < n → p (a + k) ≡ true
range_all p a zero h k low = absurd (omega arith)
range_all p a (suc n) h zero low = ap p (omega arith) ∙ (and_parts (p a) (list_all p (range_with_len (a + 1) n)) h).0
range_all p a (suc n) h (suc k) low = ap p (omega arith) ∙ range_all p (a + 1) n (and_parts (p a) (list_all p (range_with_len (a + 1) n)) h).1 k (omega arith)

-- what passes for all of some numbers passes for each of them
pub all_numbers : (p : ℕ → Bool) (ks : List ℕ) → list_all p ks ≡ true → (v : ℕ) → has_number ks v ≡ true → p v ≡ true
all_numbers p [] h v k = absurd (true≢false (sym k))
all_numbers p (w ∷ ks) h v k =
    let parts = and_parts (p w) (list_all p ks) h in
    let more = all_numbers p ks parts.1 v in
    elim (or_cases (nat_eq v w) (has_number ks v) k) [ inl e ↦ ap p (eqb-true v w e) ∙ parts.0 | inr e ↦ more e ]
