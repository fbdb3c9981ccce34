-- The keys that are owed are the different keys of the walks that are owed.
use Rattle.std.proofs.Common.{◌≡◌, ℕ, zero, suc, Bool, true, false, ◌||◌, ◌&&◌, cond, List, [], ◌∷◌, ◌++◌, length, map, filter, nat_eq, refl, sym, ap, ap₂, ◌∙◌, subst, true≢false}
use Rattle.std.specs.Cmp.Lexicographic.{pointwise}
use Rattle.std.specs.Prelude.{IsPermutation}
use Rattle.std.specs.List.{flat_map, AllByRecursion, IsDistinct, list_any}
use Rattle.std.specs.Set.{is_member}
use Rattle.std.proofs.lemmas.Cmp.{nat_list_eq_equiv}
use Rattle.std.proofs.lemmas.List.Folds.{list_any-append}
use Rattle.std.proofs.lemmas.List.Sorted.{list_any-IsPermutation, IsPermutation-map, IsPermutation-trans}
use Rattle.std.proofs.lemmas.Map.Made.{length-from_keys}
use Rattle.gq_search.specs.Different.{same_key, AreKeysOf, KeysOfOwed, KeysCounted}
use Rattle.gq_search.specs.Law.{Rises}
use Rattle.gq_search.specs.Layouts.{Layout, has_one, walks, cell, keys, key_of, later, Spot, Before, At, Over, owed_walks, owed_keys}
use Rattle.gq_search.proofs.Cells.{owed_bag, cell-some, cell-key, all-weaker}
use Rattle.gq_search.proofs.Counting.{keys-live, keys-rise}
use Rattle.gq_search.proofs.Odometer.{IsKeyPart}

-- ---- what rises is different
later-apart : (a b : List ℕ) → later a b ≡ true → same_key a b ≡ false
later-apart [] [] h = absurd (true≢false (sym h))
later-apart [] (k ∷ ks) h = refl
later-apart (c ∷ cs) [] h = absurd (true≢false (sym h))
later-apart (c ∷ cs) (k ∷ ks) h = go (nat_eq c k) h (later-apart cs ks)
  where
    go : (b : Bool) → cond b (later cs ks) (Rattle.std.specs.Prelude.nat_lt c k) ≡ true → (later cs ks ≡ true → same_key cs ks ≡ false) → (b && same_key cs ks) ≡ false
    go true h rest = rest h
    go false h rest = refl

rises-different : (ks : List (List ℕ)) → Rises ks → IsDistinct same_key ks
unfolding IsDistinct
rises-different [] h = tt
rises-different (k ∷ ks) h = (all-weaker (λ b. later k b ≡ true) (λ b. same_key k b ≡ false) ks (λ b e. later-apart k b e) h.0, rises-different ks h.1)

-- ---- what is kept of what rises
all-of-kept : {X : Type 0} (P : X → Type 0) (q : X → Bool) (xs : List X) → AllByRecursion P xs → AllByRecursion P (filter q xs)
all-of-kept P q [] a = tt
all-of-kept P q (x ∷ xs) a = elim (q x) as (λ b. AllByRecursion P (cond b (x ∷ filter q xs) (filter q xs))) [ true ↦ (a.0, all-of-kept P q xs a.1) | false ↦ all-of-kept P q xs a.1 ]

rises-kept : (q : List ℕ → Bool) (ks : List (List ℕ)) → Rises ks → Rises (filter q ks)
rises-kept q [] h = tt
rises-kept q (k ∷ ks) h = elim (q k) as (λ b. Rises (cond b (k ∷ filter q ks) (filter q ks))) [ true ↦ (all-of-kept (λ b. later k b ≡ true) q ks h.0, rises-kept q ks h.1) | false ↦ rises-kept q ks h.1 ]

owed-rise : (l : Layout) (n : ℕ) (spot : Spot) → Rises (owed_keys l n spot)
owed-rise l n Before = keys-rise l n []
owed-rise l n (At k) = rises-kept (later k) (keys l n []) (keys-rise l n [])
owed-rise l n Over = tt

owed-live : (l : Layout) (n : ℕ) (spot : Spot) → AllByRecursion (λ ks. (length ks ≡ n) × IsKeyPart l [] ks) (owed_keys l n spot)
owed-live l n Before = keys-live l n []
owed-live l n (At k) = all-of-kept _ (later k) (keys l n []) (keys-live l n [])
owed-live l n Over = tt

-- ---- the keys of cells
same-or : (b : Bool) → (b || b) ≡ b
same-or true = refl
same-or false = refl

or-none : (b : Bool) → (b || false) ≡ b
or-none true = refl
or-none false = refl

any-one : (l : Layout) (q ks : List ℕ) (ws : List (List ℕ)) → AllByRecursion (λ w. key_of l [] w ≡ ks) ws → has_one ws ≡ true → list_any (same_key q) (map (key_of l []) ws) ≡ same_key q ks
any-one l q ks [] all h = absurd (true≢false (sym h))
any-one l q ks (w ∷ []) all h = ap (λ k. same_key q k || false) all.0 ∙ or-none (same_key q ks)
any-one l q ks (w ∷ v ∷ ws) all h = ap₂ ◌||◌ (ap (same_key q) all.0) (any-one l q ks (v ∷ ws) all.1 refl) ∙ same-or (same_key q ks)

map-both : {X Y : Type 0} (f : X → Y) (xs ys : List X) → map f (xs ++ ys) ≡ map f xs ++ map f ys
map-both f [] ys = refl
map-both f (x ∷ xs) ys = ap (λ l. f x ∷ l) (map-both f xs ys)

cells-any : (l : Layout) (n : ℕ) (q : List ℕ) (kss : List (List ℕ)) → AllByRecursion (λ ks. (length ks ≡ n) × IsKeyPart l [] ks) kss → list_any (same_key q) (map (key_of l []) (flat_map (cell l n []) kss)) ≡ list_any (same_key q) kss
cells-any l n q [] all = refl
cells-any l n q (ks ∷ kss) all =
    ap (list_any (same_key q)) (map-both (key_of l []) (cell l n [] ks) (flat_map (cell l n []) kss))
    ∙ list_any-append (same_key q) (map (key_of l []) (cell l n [] ks)) (map (key_of l []) (flat_map (cell l n []) kss))
    ∙ ap₂ ◌||◌ (any-one l q ks (cell l n [] ks) (cell-key l n [] ks) (cell-some l n [] ks all.0.0 all.0.1)) (cells-any l n q kss all.1)

-- the laws
pub keys_of_owed : KeysOfOwed
keys_of_owed l n spot all same = record {
  rises = owed-rise l n spot;
  same = λ q. sym (list_any-IsPermutation (same_key q) all (map (key_of l []) (flat_map (cell l n []) (owed_keys l n spot)))
      (IsPermutation-trans _ _ _ same (IsPermutation-map (key_of l []) _ _ (owed_bag l n spot)))
      ∙ cells-any l n q (owed_keys l n spot) (owed-live l n spot));
}

pub keys_counted : KeysCounted
keys_counted ks all h = length-from_keys nat_list_eq_equiv ks all (rises-different ks h.rises) h.same
