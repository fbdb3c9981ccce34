-- How many items of a list pass a test, as a sum by recursion.
use Rattle.std.proofs.Common.{◌≡◌, ℕ, zero, suc, ◌+◌, ◌<◌, ◌≤◌, Bool, true, false, ◌&&◌, cond, eqb, ltb, List, [], ◌∷◌, ◌++◌, map, filter, flat_map, refl, sym, ap, ap₂, ◌∙◌, arith, add_assoc, zero-add, true≢false}
use Rattle.std.specs.List.{range_with_len}
use Rattle.gq_plan.specs.Counts.{bit, total, hits}
use Rattle.std.proofs.lemmas.Bool.{eqb-true, eqb-false, ne_eqb, lt-ltb, le-ltb}

pub total_append : {X : Type 0} (f : X → ℕ) (xs ys : List X) → total f (xs ++ ys) ≡ total f xs + total f ys
total_append f [] ys = sym (zero-add _)
total_append f (x ∷ xs) ys = ap (λ n. f x + n) (total_append f xs ys) ∙ sym (add_assoc (f x) (total f xs) (total f ys))

pub total_map : {X Y : Type 0} (f : Y → ℕ) (h : X → Y) (xs : List X) → total f (map h xs) ≡ total (λ x. f (h x)) xs
total_map f h [] = refl
total_map f h (x ∷ xs) = ap (λ n. f (h x) + n) (total_map f h xs)

pub total_flat_map : {X Y : Type 0} (f : Y → ℕ) (h : X → List Y) (xs : List X) → total f (flat_map h xs) ≡ total (λ x. total f (h x)) xs
total_flat_map f h [] = refl
total_flat_map f h (x ∷ xs) = total_append f (h x) (flat_map h xs) ∙ ap (λ n. total f (h x) + n) (total_flat_map f h xs)

pub total_filter : {X : Type 0} (f : X → ℕ) (p : X → Bool) (xs : List X) → total f (filter p xs) ≡ total (λ x. cond (p x) (f x) 0) xs
total_filter f p [] = refl
total_filter f p (x ∷ xs) =
    elim (p x) as (λ b. total f (cond b (x ∷ filter p xs) (filter p xs)) ≡ cond b (f x) 0 + total (λ z. cond (p z) (f z) 0) xs)
    [ true ↦ ap (λ n. f x + n) (total_filter f p xs) | false ↦ total_filter f p xs ∙ sym (zero-add _) ]

pub total_same : {X : Type 0} (f g : X → ℕ) → ((x : X) → f x ≡ g x) → (xs : List X) → total f xs ≡ total g xs
total_same f g same xs = λ i. total (λ x. same x i) xs

pub total_none : {X : Type 0} (f : X → ℕ) → ((x : X) → f x ≡ 0) → (xs : List X) → total f xs ≡ 0
total_none f none [] = refl
total_none f none (x ∷ xs) = ap₂ ◌+◌ (none x) (total_none f none xs)

pub cond_bit : (b : Bool) → cond b 1 0 ≡ bit b
cond_bit true = refl
cond_bit false = refl

pub cond_and : (b c : Bool) → cond c (bit b) 0 ≡ bit (b && c)
cond_and true true = refl
cond_and true false = refl
cond_and false true = refl
cond_and false false = refl

-- a test that does not depend on the item
pub hits_const_and : {X : Type 0} (c : Bool) (p : X → Bool) (xs : List X) → hits (λ x. c && p x) xs ≡ cond c (hits p xs) 0
hits_const_and true p xs = refl
hits_const_and false p xs = total_none _ (λ x. refl) xs

pub hits_and_const : {X : Type 0} (p : X → Bool) (c : Bool) (xs : List X) → hits (λ x. p x && c) xs ≡ cond c (hits p xs) 0
hits_and_const p true xs = total_same _ _ (λ x. ap bit (and_true (p x))) xs
  where
    and_true : (b : Bool) → (b && true) ≡ b
    and_true true = refl
    and_true false = refl
hits_and_const p false xs = total_none _ (λ x. ap bit (and_false (p x))) xs
  where
    and_false : (b : Bool) → (b && false) ≡ false
    and_false true = refl
    and_false false = refl

-- where a test picks one item out, a second test may be read at that item
pub hits_at : {X : Type 0} (same : X → Bool) (q : X → Bool) (x : X) → ((z : X) → same z ≡ true → z ≡ x) → (xs : List X) → hits (λ z. same z && q z) xs ≡ cond (q x) (hits same xs) 0
hits_at {X} same q x is xs = total_same _ _ (λ z. ap bit (go z (same z) refl)) xs ∙ hits_and_const same (q x) xs
  where
    go : (z : X) (b : Bool) → same z ≡ b → (b && q z) ≡ (b && q x)
    go z true e = ap q (is z e)
    go z false e = refl

-- a filter that keeps whatever a test counts leaves the count
pub hits_kept : {X : Type 0} (p q : X → Bool) → ((x : X) → p x ≡ true → q x ≡ true) → (xs : List X) → hits p (filter q xs) ≡ hits p xs
hits_kept p q keeps xs = total_filter (λ x. bit (p x)) q xs ∙ total_same _ _ (λ x. go (p x) (q x) (keeps x)) xs
  where
    go : (a b : Bool) → (a ≡ true → b ≡ true) → cond b (bit a) 0 ≡ bit a
    go a true h = refl
    go true false h = absurd (true≢false (sym (h refl)))
    go false false h = refl

-- a number stands in a range once or not at all
pub hits_range_none : (n a m : ℕ) → n < a → hits (λ k. eqb n k) (range_with_len a m) ≡ 0
hits_range_none n a zero h = refl
hits_range_none n a (suc m) h =
    ap₂ ◌+◌ (ap bit (ne_eqb n a (λ e. omega arith))) (hits_range_none n (a + 1) m (omega arith))

pub hits_range : (n a m : ℕ) → a ≤ n → hits (λ k. eqb n k) (range_with_len a m) ≡ bit (ltb n (a + m))
hits_range n a zero h = ap bit (sym (le-ltb n (a + 0) (omega arith)))
hits_range n a (suc m) h = go (λ k. hits_range n (a + 1) m k) (eqb n a) refl
  where
    go : (a + 1 ≤ n → hits (λ k. eqb n k) (range_with_len (a + 1) m) ≡ bit (ltb n (a + 1 + m))) → (b : Bool) → eqb n a ≡ b → bit (eqb n a) + hits (λ k. eqb n k) (range_with_len (a + 1) m) ≡ bit (ltb n (a + suc m))
    go more true e =
        let same : n ≡ a = eqb-true n a e in
        ap₂ ◌+◌ (ap bit e) (hits_range_none n (a + 1) m (omega arith)) ∙ ap bit (sym (lt-ltb n (a + suc m) (omega arith)))
    go more false e =
        let other : n ≡ a → ⊥ = eqb-false n a e in
        ap₂ ◌+◌ (ap bit e) (more (omega arith)) ∙ zero-add _ ∙ ap (λ k. bit (ltb n k)) (omega arith)
