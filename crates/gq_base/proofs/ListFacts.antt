-- Facts of lists that several crates use: parts, pieces, places and pairs.
use Rattle.std.proofs.Common.{◌≡◌, ℕ, ◌+◌, ◌<◌, ◌≤◌, Bool, true, false, cond, List, [], ◌∷◌, ◌++◌, length, length-append, take, drop, get_or, flat_map, Some, None, refl, sym, ap, ◌∙◌, append-nil, arith, inl, inr}
use Rattle.std.specs.Prelude.{map, nat_lt, slice_get, position, is_some, All, AllPairs}
use Rattle.std.specs.List.{position_or_len}
use Rattle.std.proofs.Math.Seq.{get_or-append_seam}
use Rattle.std.proofs.lemmas.Bool.{cases_lt}
use Rattle.std.proofs.lemmas.Bool.Decides.{nat_tests}
use Rattle.std.proofs.lemmas.Grind.{flat_map-append}
use Rattle.std.proofs.lemmas.List.{drop-take, get_or_append_left, get_or_push, map-append, take_more, take-append-drop, take-take}
use Rattle.std.proofs.lemmas.Option.{get_or_from_slice_get, slice_get_within}
use Rattle.std.proofs.lemmas.List.Elements.{All-cons, All-nil}

-- ---- parts

-- the first of a list, in two parts
pub take-add : {A : Type 0} (m n : ℕ) (xs : List A) → take (m + n) xs ≡ take m xs ++ take n (drop m xs)
take-add m n xs = sym (take-append-drop m (take (m + n) xs)) ∙ ap (λ l. l ++ drop m (take (m + n) xs)) (take-take m (m + n) xs (omega arith)) ∙ ap (λ l. take m xs ++ l) (drop-take m n xs)

-- ---- pieces

-- one more piece
pub flat_map_next : {X A : Type 0} (f : X → List A) (xs : List X) (at : ℕ) (d x : X) → at < length xs → x ≡ get_or xs at d → flat_map f (take at xs) ++ f x ≡ flat_map f (take (at + 1) xs)
flat_map_next f xs at d x h is = ap (λ y. flat_map f (take at xs) ++ f y) is
    ∙ sym (ap (flat_map f) (take_more xs at d h) ∙ flat_map-append f (take at xs) (get_or xs at d ∷ []) ∙ ap (λ l. flat_map f (take at xs) ++ l) (append-nil _))

-- what f gives for the items up to one, and for it
pub map_next : {A B : Type 0} (f : A → B) (xs : List A) (at : ℕ) (x : A) → slice_get xs at ≡ Some x → map f (take (at + 1) xs) ≡ map f (take at xs) ++ f x ∷ []
map_next f xs at x is = ap (map f) (take_more xs at x (slice_get_within xs at x is)) ∙ map-append f (take at xs) (get_or xs at x ∷ [])
    ∙ ap (λ y. map f (take at xs) ++ f y ∷ []) (get_or_from_slice_get xs at x x is)

-- the first pieces and the others
pub flat_map_split : {X A : Type 0} (f : X → List A) (xs : List X) (at : ℕ) → flat_map f (take at xs) ++ flat_map f (drop at xs) ≡ flat_map f xs
flat_map_split f xs at = sym (flat_map-append f (take at xs) (drop at xs)) ∙ ap (flat_map f) (take-append-drop at xs)

-- ---- places

-- one more number pushed to a list that follows f
pub follows_push : (f : ℕ → ℕ) (xs : List ℕ) (y i : ℕ) → length xs ≡ i → ((k : ℕ) → k < i → get_or xs k 0 ≡ f k) → y ≡ f i → (k : ℕ) → k < i + 1 → get_or (xs ++ y ∷ []) k 0 ≡ f k
follows_push f xs y i len each here k h = elim (cases_lt k i) [
  | inl less ↦ get_or_append_left xs (y ∷ []) 0 k (omega arith) ∙ each k less
  | inr more ↦ let e : i ≡ k = omega arith in get_or_push xs y 0 k (len ∙ e) ∙ here ∙ ap f e
]

pub some_place : (b : Bool) (n place : ℕ) → Some place ≡ cond b (Some n) None → (b ≡ true) × (place ≡ n)
some_place true n place e = (refl, cc e)
some_place false n place e = cc e

-- a place that was found is within the list
pub found_within : {X : Type 0} (p : X → Bool) (xs : List X) (i : ℕ) → position p xs ≡ Some i → i < length xs
found_within p xs i e =
    let (found, is) = some_place (nat_lt (position_or_len p xs) (length xs)) (position_or_len p xs) i (sym e) in
    grind (arith, nat_tests, found)

next_none : {X : Type 0} (p : X → Bool) (x : X) (xs : List X) (b : Bool) → p x ≡ b → (length xs ≤ position_or_len p xs → All (λ y. p y ≡ false) xs)
    → length (x ∷ xs) ≤ position_or_len p (x ∷ xs) → All (λ y. p y ≡ false) (x ∷ xs)
next_none p x xs true e more h = absurd (let k = rw e at h in omega arith)
next_none p x xs false e more h = let k = rw e at h in All-cons (λ y. p y ≡ false) x xs e (more (omega arith))

none_far : {X : Type 0} (p : X → Bool) (xs : List X) → length xs ≤ position_or_len p xs → All (λ y. p y ≡ false) xs
none_far p [] h = All-nil (λ y. p y ≡ false)
none_far p (x ∷ xs) h = next_none p x xs (p x) refl (none_far p xs) h

-- where no item passes, each fails
pub none_passes : {X : Type 0} (p : X → Bool) (xs : List X) → is_some (position p xs) ≡ false → All (λ y. p y ≡ false) xs
none_passes p xs e = none_far p xs (no_some (nat_lt (position_or_len p xs) (length xs)) (position_or_len p xs) (length xs) refl e)
  where
    no_some : (b : Bool) (m n : ℕ) → nat_lt m n ≡ b → is_some (cond b (Some m) None) ≡ false → n ≤ m
    no_some true m n e h = cc h
    no_some false m n e h = grind (arith, nat_tests, e)

-- ---- pairs

-- a last item that is as it must be towards each before it
pub pairs_push : {X : Type 0} (R : X → X → Type 0) (xs : List X) (x : X) → AllPairs R xs → All (λ y. R y x) xs → AllPairs R (xs ++ x ∷ [])
pairs_push R xs x pairs last i j d less within = elim (cases_lt j (length xs)) as (λ _. R (get_or (xs ++ x ∷ []) i d) (get_or (xs ++ x ∷ []) j d)) [
  | inl h ↦ rw (get_or_append_left xs (x ∷ []) d i (omega arith), get_or_append_left xs (x ∷ []) d j h) (pairs i j d less h)
  | inr h ↦
      let longer : length (xs ++ x ∷ []) ≡ length xs + 1 = length-append xs (x ∷ []) in
      let is : j ≡ length xs = omega arith in
      rw (is, get_or_append_left xs (x ∷ []) d i (omega arith), get_or-append_seam xs x [] d) (last i d (omega arith))
]
