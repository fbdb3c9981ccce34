-- Lists that stand for others.
use Rattle.std.proofs.Common.{◌≡◌, ◌⊎◌, inl, inr, zero, suc, Bool, true, false, not, ◌||◌, List, [], ◌∷◌, ◌++◌, flat_map, refl, sym, ap, ◌∙◌, subst, arith, true≢false, append_assoc, append-nil}
use Rattle.std.specs.List.{AllByRecursion, Contains, list_any, remove}
use Rattle.std.specs.List.Sorted.{IsPermutation}
use Rattle.std.proofs.lemmas.Bool.{and_parts}
use Rattle.std.proofs.lemmas.Grind.{flat_map-append}
use Rattle.std.proofs.lemmas.List.Elements.{Contains-append_left, Contains-append_right, Contains-append_cases}
use Rattle.std.proofs.lemmas.List.Sorted.{IsPermutation-append_comm, IsPermutation-append_left, IsPermutation-append_right, IsPermutation-cons, IsPermutation-refl, IsPermutation-remove, IsPermutation-trans, list_any-IsPermutation}
use Rattle.std.proofs.lemmas.Map.Views.{Contains-from_any}
use Rattle.gq_base.specs.Lists.{all_distinct}
use Rattle.gq_law_plans.proofs.Reordered.{permuted_flat_map}
use Rattle.gq_law_ends.specs.StandFor.{StandFor}

-- ---- what stands in a list

pub none_there : {X : Type 0} (x : X) → Contains [] x → ⊥
none_there x h = let low = h.1 in omega (arith, low)

pub first_or_later : {X : Type 0} (y : X) (ys : List X) (x : X) → Contains (y ∷ ys) x → (y ≡ x) ⊎ Contains ys x
first_or_later y ys x (zero, low, is) = inl is
first_or_later y ys x (suc k, low, is) = inr (k, omega (arith, low), is)

pub there_first : {X : Type 0} (x : X) (xs : List X) → Contains (x ∷ xs) x
there_first x xs = (0, omega arith, refl)

pub there_later : {X : Type 0} (y : X) (ys : List X) (x : X) → Contains ys x → Contains (y ∷ ys) x
there_later y ys x (k, low, is) = (suc k, omega (arith, low), is)

pub each_there : {X : Type 0} (P : X → Type 0) (xs : List X) → ((x : X) → Contains xs x → P x) → AllByRecursion P xs
each_there P [] h = tt
each_there P (x ∷ xs) h = (h x (there_first x xs), each_there P xs (λ z k. h z (there_later x xs z k)))

in_flat_map : {X Y : Type 0} (f : X → List Y) (xs : List X) (x : X) (y : Y) → Contains xs x → Contains (f x) y → Contains (flat_map f xs) y
in_flat_map f [] x y h k = absurd (none_there x h)
in_flat_map f (z ∷ xs) x y h k = go (first_or_later z xs x h) (λ later. in_flat_map f xs x y later k)
  where
    go : (z ≡ x) ⊎ Contains xs x → (Contains xs x → Contains (flat_map f xs) y) → Contains (f z ++ flat_map f xs) y
    go (inl e) next = Contains-append_left (f z) (flat_map f xs) y (subst (λ w. Contains (f w) y) (sym e) k)
    go (inr later) next = Contains-append_right (f z) (flat_map f xs) y (next later)

from_flat_map : {X Y : Type 0} (f : X → List Y) (xs : List X) (y : Y) → Contains (flat_map f xs) y → (x : X) × (Contains xs x × Contains (f x) y)
from_flat_map f [] y h = absurd (none_there y h)
from_flat_map f (z ∷ xs) y h = go (Contains-append_cases (f z) (flat_map f xs) y h) (from_flat_map f xs y)
  where
    go : Contains (f z) y ⊎ Contains (flat_map f xs) y → (Contains (flat_map f xs) y → (x : _) × (Contains xs x × Contains (f x) y)) → (x : _) × (Contains (z ∷ xs) x × Contains (f x) y)
    go (inl k) next = (z, (there_first z xs, k))
    go (inr k) next = let more = next k in (more.0, (there_later z xs more.0 more.1.0, more.1.1))

-- ---- lists that stand for others

pub stands_itself : {X : Type 0} (xs : List X) → StandFor xs xs
stands_itself xs = record { rest = []; bag = subst (IsPermutation xs) (sym (append-nil xs)) (IsPermutation-refl xs); among = λ x h. absurd (none_there x h) }

pub stands_flat_map : {X Y : Type 0} (f : X → List Y) (part all : List X) → StandFor part all → StandFor (flat_map f part) (flat_map f all)
stands_flat_map f part all s = record {
  rest = flat_map f s.rest;
  bag = subst (IsPermutation (flat_map f all)) (flat_map-append f part s.rest) (permuted_flat_map f all (part ++ s.rest) s.bag);
  among = λ y h. let more = from_flat_map f s.rest y h in in_flat_map f part more.0 y (s.among more.0 more.1.0) more.1.1;
}

middle : {X : Type 0} (a b c d : List X) → IsPermutation ((a ++ b) ++ (c ++ d)) ((a ++ c) ++ (b ++ d))
middle a b c d =
    subst (λ l. IsPermutation l ((a ++ c) ++ (b ++ d))) (sym (append_assoc a b (c ++ d)))
    (subst (λ l. IsPermutation (a ++ (b ++ (c ++ d))) l) (sym (append_assoc a c (b ++ d)))
    (IsPermutation-append_right a (b ++ (c ++ d)) (c ++ (b ++ d))
    (subst (λ l. IsPermutation l (c ++ (b ++ d))) (append_assoc b c d)
    (subst (IsPermutation ((b ++ c) ++ d)) (append_assoc c b d) (IsPermutation-append_left d (b ++ c) (c ++ b) (IsPermutation-append_comm b c))))))

pub stands_append : {X : Type 0} (p all q more : List X) → StandFor p all → StandFor q more → StandFor (p ++ q) (all ++ more)
stands_append p all q more s t = record {
  rest = s.rest ++ t.rest;
  bag = IsPermutation-trans (all ++ more) ((p ++ s.rest) ++ (q ++ t.rest)) ((p ++ q) ++ (s.rest ++ t.rest))
      (IsPermutation-trans (all ++ more) ((p ++ s.rest) ++ more) ((p ++ s.rest) ++ (q ++ t.rest)) (IsPermutation-append_left more all (p ++ s.rest) s.bag) (IsPermutation-append_right (p ++ s.rest) more (q ++ t.rest) t.bag))
      (middle p s.rest q t.rest);
  among = λ x h. go x (Contains-append_cases s.rest t.rest x h);
}
  where
    go : (x : _) → Contains s.rest x ⊎ Contains t.rest x → Contains (p ++ q) x
    go x (inl k) = Contains-append_left p q x (s.among x k)
    go x (inr k) = Contains-append_right p q x (t.among x k)

-- ---- different items

module _ {X : Type 0} (same : X → X → Bool) (is : (x y : X) → same x y ≡ true → x ≡ y) (itself : (x : X) → same x x ≡ true) where
  -- what is left of a list without one of each of these
  record Left (part all : List X) : Type 0 where
    pub rest : List X
    pub bag : IsPermutation all (part ++ rest)

  not_first : (n x : X) (all rest : List X) → IsPermutation all (x ∷ rest) → same n x ≡ false → list_any (same n) all ≡ true → list_any (same n) rest ≡ true
  not_first n x all rest bag off h =
      ap (λ b. b || list_any (same n) rest) (sym off) ∙ sym (list_any-IsPermutation (same n) all (x ∷ rest) bag) ∙ h

  others : (x : X) (part all rest : List X) → IsPermutation all (x ∷ rest) → ((n : X) → same n x ≡ same x n) → not (list_any (same x) part) ≡ true
      → AllByRecursion (λ n. list_any (same n) all ≡ true) part → AllByRecursion (λ n. list_any (same n) rest ≡ true) part
  others x [] all rest bag turn apart h = tt
  others x (n ∷ part) all rest bag turn apart h =
      let parts = nor_parts (same x n) (list_any (same x) part) apart in
      (not_first n x all rest bag (turn n ∙ parts.0) h.0, others x part all rest bag turn parts.1 h.1)
    where
      nor_parts : (a b : Bool) → not (a || b) ≡ true → (a ≡ false) × (not b ≡ true)
      nor_parts true b e = absurd (true≢false (sym e))
      nor_parts false b e = (refl, e)

  left_of : ((x y : X) → same x y ≡ same y x) → (part all : List X) → all_distinct same part ≡ true → AllByRecursion (λ n. list_any (same n) all ≡ true) part → Left part all
  left_of turn [] all d h = record { rest = all; bag = IsPermutation-refl all }
  left_of turn (x ∷ part) all d h =
      let parts = and_parts (not (list_any (same x) part)) (all_distinct same part) d in
      let there : Contains all x = Contains-from_any is x all h.0 in
      let first : IsPermutation all (x ∷ remove all there.0) = IsPermutation-remove all there.0 x there.1 (sym there.2) in
      let more = left_of turn part (remove all there.0) parts.1 (others x part all (remove all there.0) first (λ n. turn n x) parts.0 h.1) in
      record { rest = more.rest; bag = IsPermutation-trans all (x ∷ remove all there.0) (x ∷ (part ++ more.rest)) first (IsPermutation-cons x (remove all there.0) (part ++ more.rest) more.bag) }

  any_of : (x : X) (xs : List X) → Contains xs x → list_any (same x) xs ≡ true
  any_of x [] h = absurd (none_there x h)
  any_of x (y ∷ xs) h = go (first_or_later y xs x h) (any_of x xs)
    where
      second : (a b : Bool) → b ≡ true → (a || b) ≡ true
      second true b e = refl
      second false b e = e

      go : (y ≡ x) ⊎ Contains xs x → (Contains xs x → list_any (same x) xs ≡ true) → (same x y || list_any (same x) xs) ≡ true
      go (inl e) next = ap (λ b. b || list_any (same x) xs) (subst (λ z. same x z ≡ true) (sym e) (itself x))
      go (inr k) next = second (same x y) (list_any (same x) xs) (next k)

  each_any : (xs all : List X) → ((n : X) → list_any (same n) xs ≡ list_any (same n) all) → AllByRecursion (λ n. list_any (same n) all ≡ true) xs
  each_any xs all alike = each_there (λ n. list_any (same n) all ≡ true) xs (λ n h. sym (alike n) ∙ any_of n xs h)

  pub distinct_stand : ((x y : X) → same x y ≡ same y x) → (part all : List X) → all_distinct same part ≡ true → ((n : X) → list_any (same n) part ≡ list_any (same n) all) → StandFor part all
  distinct_stand turn part all d alike =
      let left = left_of turn part all d (each_any part all alike) in
      record {
        rest = left.rest;
        bag = left.bag;
        among = λ x h. Contains-from_any is x part
            (alike x ∙ list_any-IsPermutation (same x) all (part ++ left.rest) left.bag ∙ any_of x (part ++ left.rest) (Contains-append_right part left.rest x h));
      }
