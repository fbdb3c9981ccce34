-- A property of each item of a list, by recursion on the list.
use Rattle.std.proofs.Common.{◌≡◌, ℕ, zero, suc, ◌+◌, ◌<◌, ◌≤◌, Bool, true, false, cond, List, [], ◌∷◌, ◌++◌, map, filter, flat_map, get_or, length, refl, subst, sym, arith}
use Rattle.std.specs.List.{AllByRecursion, range_with_len}

pub each_of : {A : Type 0} (P : A → Type 0) → ((x : A) → P x) → (xs : List A) → AllByRecursion P xs
each_of P h [] = tt
each_of P h (x ∷ xs) = (h x, each_of P h xs)

pub each_then : {A : Type 0} (P Q : A → Type 0) → ((x : A) → P x → Q x) → (xs : List A) → AllByRecursion P xs → AllByRecursion Q xs
each_then P Q step [] h = tt
each_then P Q step (x ∷ xs) h = (step x h.0, each_then P Q step xs h.1)

pub each_map : {A B : Type 0} (P : A → Type 0) (Q : B → Type 0) (f : A → B) → ((x : A) → P x → Q (f x)) → (xs : List A) → AllByRecursion P xs → AllByRecursion Q (map f xs)
each_map P Q f step [] h = tt
each_map P Q f step (x ∷ xs) h = (step x h.0, each_map P Q f step xs h.1)

pub each_append : {A : Type 0} (P : A → Type 0) (xs ys : List A) → AllByRecursion P xs → AllByRecursion P ys → AllByRecursion P (xs ++ ys)
each_append P [] ys h k = k
each_append P (x ∷ xs) ys h k = (h.0, each_append P xs ys h.1 k)

pub each_flat_map : {A B : Type 0} (P : A → Type 0) (Q : B → Type 0) (f : A → List B) → ((x : A) → P x → AllByRecursion Q (f x)) → (xs : List A) → AllByRecursion P xs → AllByRecursion Q (flat_map f xs)
each_flat_map P Q f step [] h = tt
each_flat_map P Q f step (x ∷ xs) h = each_append Q (f x) (flat_map f xs) (step x h.0) (each_flat_map P Q f step xs h.1)

-- what a filter keeps passes its test
pub each_kept : {A : Type 0} (P : A → Type 0) (p : A → Bool) (xs : List A) → AllByRecursion P xs → AllByRecursion (λ x. P x × (p x ≡ true)) (filter p xs)
each_kept P p [] h = tt
each_kept {A} P p (x ∷ xs) h = go (p x) refl (each_kept P p xs h.1)
  where
    go : (b : Bool) → p x ≡ b → AllByRecursion (λ x. P x × (p x ≡ true)) (filter p xs) → AllByRecursion (λ x. P x × (p x ≡ true)) (cond b (x ∷ filter p xs) (filter p xs))
    go true e more = ((h.0, e), more)
    go false e more = more

-- a property of each item is one of the item at a place
pub each_at : {A : Type 0} (P : A → Type 0) (xs : List A) (i : ℕ) (x : A) → AllByRecursion P xs → i < length xs → x ≡ get_or xs i x → P x
each_at P [] i x h l is = absurd (omega arith)
each_at P (a ∷ xs) zero x h l is = subst P (sym is) h.0
each_at P (a ∷ xs) (suc i) x h l is = each_at P xs i x h.1 (omega arith) is

-- the numbers of a range are below its end
pub each_below : (a n m : ℕ) → a + n ≤ m → AllByRecursion (λ k. k < m) (range_with_len a n)
each_below a zero m h = tt
each_below a (suc n) m h = (omega arith, each_below (a + 1) n m (omega arith))
