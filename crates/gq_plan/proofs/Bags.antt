-- Lists in which each item stands equally often are permutations of each other; a list and its parts.
use Rattle.std.proofs.Common.{◌≡◌, ℕ, ◌+◌, ◌*◌, ◌<◌, Bool, true, false, cond, List, [], ◌∷◌, ◌++◌, filter, flat_map, IsPermutation, refl, sym, ap, ◌∙◌, subst, arith}
use Rattle.std.specs.List.{AllByRecursion}
use Rattle.std.proofs.lemmas.List.Sorted.{IsPermutation-refl, IsPermutation-sym, IsPermutation-cons, IsPermutation-trans, IsPermutation-middle}
use Rattle.gq_plan.specs.Counts.{bit, total, hits}
use Rattle.gq_plan.proofs.Counts.{total_append, total_flat_map, total_filter, total_same, hits_at, cond_and}
use Rattle.gq_plan.proofs.Each.{each_of, each_then, each_flat_map, each_kept}

module _ {X : Type 0} (same : X → X → Bool) (same_refl : (x : X) → same x x ≡ true) (same_is : (x z : X) → same x z ≡ true → z ≡ x) where
  -- an item that is counted stands somewhere
  found : (x : X) (xs : List X) → 0 < hits (same x) xs → (front : List X) × (back : List X) × (xs ≡ front ++ x ∷ back)
  found x [] h = absurd (omega arith)
  found x (z ∷ xs) h = go (same x z) refl (found x xs) h
    where
      go : (b : Bool) → same x z ≡ b → (0 < hits (same x) xs → (front : List X) × (back : List X) × (xs ≡ front ++ x ∷ back)) → 0 < bit b + hits (same x) xs → (front : List X) × (back : List X) × (z ∷ xs ≡ front ++ x ∷ back)
      go true e more h = ([], xs, ap (λ w. w ∷ xs) (same_is x z e))
      go false e more h = let r = more (omega arith) in (z ∷ r.0, r.1, ap (λ l. z ∷ l) r.2)

  without : (P : X → Type 0) (x : X) (front back : List X) → AllByRecursion P (front ++ x ∷ back) → AllByRecursion P (front ++ back)
  without P x [] back h = h.1
  without P x (z ∷ front) back h = (h.0, without P x front back h.1)

  pub permutation_from_hits : (Good : X → Type 0) (xs ys : List X) → AllByRecursion Good xs → AllByRecursion Good ys
      → ((x : X) → Good x → hits (same x) xs ≡ hits (same x) ys) → IsPermutation xs ys
  permutation_from_hits Good [] [] h k e = IsPermutation-refl []
  permutation_from_hits Good [] (z ∷ ys) h k e =
      let one : bit (same z z) ≡ 1 = ap bit (same_refl z) in
      let none : 0 ≡ bit (same z z) + hits (same z) ys = e z k.0 in
      absurd (omega arith)
  permutation_from_hits Good (x ∷ xs) ys h k e =
      let one : bit (same x x) ≡ 1 = ap bit (same_refl x) in
      let both : bit (same x x) + hits (same x) xs ≡ hits (same x) ys = e x h.0 in
      let r = found x ys (omega arith) in
      let parts : (w : X) → hits (same w) ys ≡ bit (same w x) + hits (same w) (r.0 ++ r.1) =
      λ w. ap (hits (same w)) r.2 ∙ middle w r.0 r.1 in
      IsPermutation-trans _ _ _
      (IsPermutation-cons x xs (r.0 ++ r.1)
      (permutation_from_hits Good xs (r.0 ++ r.1) h.1 (without Good x r.0 r.1 (subst (AllByRecursion Good) r.2 k))
      (λ w good. let a : bit (same w x) + hits (same w) xs ≡ hits (same w) ys = e w good in let b = parts w in omega arith)))
      (subst (IsPermutation (x ∷ (r.0 ++ r.1))) (sym r.2) (IsPermutation-sym _ _ (IsPermutation-middle r.0 x r.1)))
    where
      middle : (w : X) (front back : List X) → hits (same w) (front ++ x ∷ back) ≡ bit (same w x) + hits (same w) (front ++ back)
      middle w front back =
          let a = total_append (λ z. bit (same w z)) front (x ∷ back) in
          let b = total_append (λ z. bit (same w z)) front back in
          omega arith

  -- a list is its parts together, where each of its items lies in one part
  pub parts_of_list : {C : Type 0} (lies : X → C → Bool) (cs : List C) (xs : List X) → AllByRecursion (λ x. hits (lies x) cs ≡ 1) xs
      → IsPermutation (flat_map (λ c. filter (λ x. lies x c) xs) cs) xs
  parts_of_list {C} lies cs xs one =
      permutation_from_hits (λ x. hits (lies x) cs ≡ 1) _ xs
      (each_flat_map (λ c. Unit {0}) (λ x. hits (lies x) cs ≡ 1) (λ c. filter (λ x. lies x c) xs)
      (λ c _. each_then (λ x. (hits (lies x) cs ≡ 1) × (lies x c ≡ true)) (λ x. hits (lies x) cs ≡ 1) (λ x h. h.0) _ (each_kept (λ x. hits (lies x) cs ≡ 1) (λ x. lies x c) xs one))
      cs (each_of _ (λ c. tt) cs))
      one
      (λ x good.
      total_flat_map (λ z. bit (same x z)) (λ c. filter (λ z. lies z c) xs) cs
      ∙ total_same _ _
      (λ c. total_filter (λ z. bit (same x z)) (λ z. lies z c) xs
      ∙ total_same _ _ (λ z. cond_and (same x z) (lies z c)) xs
      ∙ hits_at (same x) (λ z. lies z c) x (same_is x) xs) cs
      ∙ spread (λ c. lies x c) (hits (same x) xs) cs
      ∙ ap (λ n. n * hits (same x) xs) good ∙ omega arith)
    where
      spread : (p : C → Bool) (n : ℕ) (cs : List C) → total (λ c. cond (p c) n 0) cs ≡ hits p cs * n
      spread p n [] = omega arith
      spread p n (c ∷ cs) = go (p c) ∙ ap (λ k. bit (p c) * n + k) (spread p n cs) ∙ omega arith
        where
          go : (b : Bool) → cond b n 0 + total (λ c. cond (p c) n 0) cs ≡ bit b * n + total (λ c. cond (p c) n 0) cs
          go true = omega arith
          go false = omega arith
