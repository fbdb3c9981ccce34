-- What is made of the numbers of a range, one after the other, and lists of distinct items that are made so.
use Rattle.std.proofs.Common.{◌≡◌, ℕ, zero, suc, ◌+◌, ◌<◌, ◌≤◌, Bool, true, false, cond, List, [], ◌∷◌, ◌++◌, map, flat_map, refl, sym, ap, ◌∙◌, append-nil, arith}
use Rattle.std.specs.Prelude.{◌&&◌, ◌||◌, not, filter}
use Rattle.std.specs.List.{list_all, list_any, range_with_len}
use Rattle.std.proofs.lemmas.Grind.{flat_map-append}
use Rattle.std.proofs.lemmas.List.{map-append}
use Rattle.std.proofs.lemmas.List.Elements.{filter-append}
use Rattle.std.proofs.lemmas.List.Folds.{list_all-append}
use Rattle.gq_base.proofs.ListLaws.{not_yet, two}
use Rattle.gq_base.specs.Lists.{all_distinct}

-- ---- one number more

last : (a n j : ℕ) → a + n ≡ j → range_with_len a (suc n) ≡ range_with_len a n ++ j ∷ []
last a zero j e = let same : a ≡ j = omega arith in ap (λ k. k ∷ []) same
last a (suc n) j e = ap (λ l. a ∷ l) (last (a + 1) n j (omega arith))

pub range_more : (a n j : ℕ) → a + n ≡ j → range_with_len a (n + 1) ≡ range_with_len a n ++ j ∷ []
range_more a n j e = let on : n + 1 ≡ suc n = omega arith in ap (range_with_len a) on ∙ last a n j e

map_more : {X : Type 0} (f : ℕ → X) (a n j : ℕ) → a + n ≡ j → map f (range_with_len a n) ++ f j ∷ [] ≡ map f (range_with_len a (n + 1))
map_more f a n j e = sym (ap (map f) (range_more a n j e) ∙ map-append f (range_with_len a n) (j ∷ []))

-- the items of one number more were pushed
pub mapped : {X : Type 0} (f : ℕ → X) (a n j : ℕ) (xs ys : List X) (x : X) → a + n ≡ j → xs ≡ map f (range_with_len a n) → x ≡ f j → ys ≡ xs ++ x ∷ [] → ys ≡ map f (range_with_len a (n + 1))
mapped f a n j xs ys x e p q r = r ∙ ap (λ l. l ++ x ∷ []) p ∙ ap (λ y. map f (range_with_len a n) ++ y ∷ []) q ∙ map_more f a n j e

pub flat_map_more : {X : Type 0} (f : ℕ → List X) (a n j : ℕ) → a + n ≡ j → flat_map f (range_with_len a n) ++ f j ≡ flat_map f (range_with_len a (n + 1))
flat_map_more f a n j e = sym (ap (flat_map f) (range_more a n j e) ∙ flat_map-append f (range_with_len a n) (j ∷ []) ∙ ap (λ l. flat_map f (range_with_len a n) ++ l) (append-nil (f j)))

module _ {X : Type 0} (p : ℕ → Bool) (f : ℕ → X) (a n j : ℕ) (e : a + n ≡ j) where
  kept_all : filter p (range_with_len a (n + 1)) ≡ filter p (range_with_len a n) ++ filter p (j ∷ [])
  kept_all = ap (filter p) (range_more a n j e) ∙ filter-append p (range_with_len a n) (j ∷ [])

  pub kept_more : p j ≡ true → map f (filter p (range_with_len a n)) ++ f j ∷ [] ≡ map f (filter p (range_with_len a (n + 1)))
  kept_more h = sym (ap (map f) (kept_all ∙ ap (λ b. filter p (range_with_len a n) ++ cond b (j ∷ []) []) h) ∙ map-append f (filter p (range_with_len a n)) (j ∷ []))

  pub none_more : p j ≡ false → map f (filter p (range_with_len a n)) ≡ map f (filter p (range_with_len a (n + 1)))
  none_more h = sym (ap (map f) (kept_all ∙ ap (λ b. filter p (range_with_len a n) ++ cond b (j ∷ []) []) h ∙ append-nil (filter p (range_with_len a n))))

-- ---- each number of a range

pub both : (a b : Bool) → a ≡ true → b ≡ true → (a && b) ≡ true
both a b p q = rw (p, q) refl

pub all_range : (p : ℕ → Bool) (a n : ℕ) → ((i : ℕ) → a ≤ i → i < a + n → p i ≡ true) → list_all p (range_with_len a n) ≡ true
all_range p a zero h = refl
all_range p a (suc n) h = both (p a) (list_all p (range_with_len (a + 1) n)) (h a (omega arith) (omega arith)) (all_range p (a + 1) n (λ i low high. h i (omega arith) (omega arith)))

pub all_flat_map : {A B : Type 0} (p : B → Bool) (f : A → List B) (xs : List A) → list_all p (flat_map f xs) ≡ list_all (λ x. list_all p (f x)) xs
all_flat_map p f [] = refl
all_flat_map p f (x ∷ xs) = list_all-append p (f x) (flat_map f xs) ∙ ap (λ b. list_all p (f x) && b) (all_flat_map p f xs)

kept_or_not : {A : Type 0} (p : A → Bool) (x : A) (xs : List A) (b : Bool) → p x ≡ true → list_all p xs ≡ true → list_all p (cond b (x ∷ xs) xs) ≡ true
kept_or_not p x xs true e h = both (p x) (list_all p xs) e h
kept_or_not p x xs false e h = h

pub all_filter : {A : Type 0} (p q : A → Bool) (xs : List A) → list_all p xs ≡ true → list_all p (filter q xs) ≡ true
all_filter p q [] h = refl
all_filter p q (x ∷ xs) h = let k = two (p x) (list_all p xs) h in kept_or_not p x (filter q xs) (q x) k.0 (all_filter p q xs k.1)

-- ---- distinct items

neither : (a b : Bool) → (a || b) ≡ false → (a ≡ false) × (b ≡ false)
neither true b e = cc e
neither false b e = (refl, e)

module _ {A : Type 0} (same : A → A → Bool) where
  -- no later number gives the same item
  none_later : (f : ℕ → A) (x : A) (a n : ℕ) → ((j : ℕ) → a ≤ j → j < a + n → same x (f j) ≡ false) → list_any (same x) (map f (range_with_len a n)) ≡ false
  none_later f x a zero h = refl
  none_later f x a (suc n) h = rw (h a (omega arith) (omega arith)) (none_later f x (a + 1) n (λ j low high. h j (omega arith) (omega arith)))

  -- numbers that give different items give distinct ones
  pub distinct_range : (f : ℕ → A) (a n : ℕ) → ((i j : ℕ) → a ≤ i → i < j → j < a + n → same (f i) (f j) ≡ false) → all_distinct same (map f (range_with_len a n)) ≡ true
  distinct_range f a zero h = refl
  distinct_range f a (suc n) h =
      let rest = distinct_range f (a + 1) n (λ i j low less high. h i j (omega arith) less (omega arith)) in
      rw (none_later f (f a) (a + 1) n (λ j low high. h a j (omega arith) (omega arith) (omega arith))) rest

  kept_none : {B : Type 0} (f : B → A) (x : A) (y : B) (ys : List B) (b : Bool) → same x (f y) ≡ false → list_any (same x) (map f ys) ≡ false → list_any (same x) (map f (cond b (y ∷ ys) ys)) ≡ false
  kept_none f x y ys true e h = rw e h
  kept_none f x y ys false e h = h

  none_kept : {B : Type 0} (f : B → A) (q : B → Bool) (x : A) (xs : List B) → list_any (same x) (map f xs) ≡ false → list_any (same x) (map f (filter q xs)) ≡ false
  none_kept f q x [] h = refl
  none_kept f q x (y ∷ ys) h =
      let k = neither (same x (f y)) (list_any (same x) (map f ys)) h in
      kept_none f x y (filter q ys) (q y) k.0 (none_kept f q x ys k.1)

  kept_distinct : {B : Type 0} (f : B → A) (y : B) (ys : List B) (b : Bool) → list_any (same (f y)) (map f ys) ≡ false → all_distinct same (map f ys) ≡ true → all_distinct same (map f (cond b (y ∷ ys) ys)) ≡ true
  kept_distinct f y ys true none h = rw (none, h) refl
  kept_distinct f y ys false none h = h

  -- what is left of distinct items is distinct
  pub distinct_filter : {B : Type 0} (f : B → A) (q : B → Bool) (xs : List B) → all_distinct same (map f xs) ≡ true → all_distinct same (map f (filter q xs)) ≡ true
  distinct_filter f q [] h = refl
  distinct_filter f q (y ∷ ys) h =
      let k = two (not (list_any (same (f y)) (map f ys))) (all_distinct same (map f ys)) h in
      kept_distinct f y (filter q ys) (q y) (none_kept f q (f y) ys (not_yet (list_any (same (f y)) (map f ys)) (sym k.0))) (distinct_filter f q ys k.1)
