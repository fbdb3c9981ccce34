-- Where there is no walk there is no key.
use Rattle.std.proofs.Common.{◌≡◌, ℕ, ◌<◌, ◌+◌, Bool, true, false, cond, List, [], ◌∷◌, ◌++◌, length, refl, sym, ap, ◌∙◌, arith}
use Rattle.std.specs.List.{flat_map, filter, AllByRecursion}
use Rattle.std.proofs.lemmas.List.Sorted.{length_permutation}
use Rattle.gq_search.specs.Layouts.{Layout, below, cell, has_one, keys, live, walks}
use Rattle.gq_search.proofs.Cells.{cell-some, filter_true, owed_in_cells}
use Rattle.gq_search.proofs.Counting.{keys-live}
use Rattle.gq_search.proofs.Odometer.{IsKeyPart}

keys-none : (l : Layout) (n : ℕ) (pre : List ℕ) → walks l n pre ≡ [] → keys l n pre ≡ []
keys-none l n pre e = none (keys l n pre) (keys-live l n pre) (sym (length_permutation _ _ (owed_in_cells l n pre (λ _. true)))) refl
  where
    some-long : {X : Type 0} (xs ys : List X) → has_one xs ≡ true → 0 < length (xs ++ ys)
    some-long [] ys h = cc
    some-long (x ∷ xs) ys h = omega arith

    no-walks : length (filter (λ _. true) (walks l n pre)) ≡ 0
    no-walks = ap length (filter_true (walks l n pre) ∙ e)

    none : (kss : List (List ℕ)) → AllByRecursion (λ ks. (length ks ≡ n) × IsKeyPart l pre ks) kss →
        length (filter (λ _. true) (walks l n pre)) ≡ length (flat_map (cell l n pre) (filter (λ _. true) (keys l n pre))) → keys l n pre ≡ kss → kss ≡ []
    none [] a h s = refl
    none (ks ∷ kss) a h s =
        let f : filter (λ _. true) (keys l n pre) ≡ ks ∷ kss = filter_true (keys l n pre) ∙ s in
        let g : length (filter (λ _. true) (walks l n pre)) ≡ length (cell l n pre ks ++ flat_map (cell l n pre) kss) = h ∙ ap (λ x. length (flat_map (cell l n pre) x)) f in
        absurd (omega (arith, g, no-walks, some-long (cell l n pre ks) (flat_map (cell l n pre) kss) (cell-some l n pre ks a.0.0 a.0.1)))

-- a number under which there is no walk
pub below-none : (l : Layout) (n : ℕ) (pre : List ℕ) (k : ℕ) → walks l n (pre ++ k ∷ []) ≡ [] → below l n pre k ≡ []
below-none l n pre k e = either (live l pre k) (keys l n (pre ++ k ∷ [])) (keys-none l n (pre ++ k ∷ []) e)
  where
    either : (b : Bool) (kss : List (List ℕ)) → kss ≡ [] → cond b kss [] ≡ []
    either true kss none = none
    either false kss none = refl
