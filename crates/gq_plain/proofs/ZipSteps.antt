-- A test of each item of a list with the one at its place in another, on its way.
use Rattle.std.proofs.Common.{◌≡◌, ℕ, ◌+◌, ◌<◌, ◌≤◌, Bool, true, false, List, [], ◌∷◌, length, drop, get_or, refl, sym, ap, ◌∙◌, arith, ◌⊎◌, inl, inr}
use Rattle.std.specs.Prelude.{◌&&◌}
use Rattle.std.proofs.lemmas.List.{drop_all, drop_more}
use Rattle.gq_base.specs.Lists.{all_zip}

and_false : (a : Bool) → (a && false) ≡ false
and_false true = refl
and_false false = refl

-- there are as many of both, and the items from this place on decide
pub record Passed {A B : Type 0} (p : A → B → Bool) (xs : List A) (ys : List B) (at : ℕ) : Type 0 where
  pub size : length xs ≡ length ys
  pub given : all_zip p xs ys ≡ all_zip p (drop at xs) (drop at ys)

module _ {A B : Type 0} (p : A → B → Bool) where
  pub sized : (xs : List A) (ys : List B) → (length xs ≡ length ys) ⊎ (all_zip p xs ys ≡ false)
  sized [] [] = inl refl
  sized [] (y ∷ ys) = inr refl
  sized (x ∷ xs) [] = inr refl
  sized (x ∷ xs) (y ∷ ys) = elim (sized xs ys) [
    | inl e ↦ inl (omega arith)
    | inr e ↦ inr (ap (λ b. p x y && b) e ∙ and_false (p x y))
  ]

  module _ (xs : List A) (ys : List B) where
    pub first : length xs ≡ length ys → Passed p xs ys 0
    first e = record { size = e; given = refl }

    module _ (at : ℕ) (h : Passed p xs ys at) where
      pub all_passed : length xs ≤ at → all_zip p xs ys ≡ true
      all_passed e =
          let none : drop at xs ≡ [] = drop_all at xs e in
          let none_too : drop at ys ≡ [] = let size = h.size in drop_all at ys (omega arith) in
          rw (h.given, none, none_too) refl

      module _ (more : at < length xs) (x : A) (is : x ≡ get_or xs at x) (y : B) (is_too : y ≡ get_or ys at y) where
        rest : drop at xs ≡ x ∷ drop (at + 1) xs
        rest = drop_more xs at x more ∙ ap (λ z. z ∷ drop (at + 1) xs) (sym is)

        rest_too : drop at ys ≡ y ∷ drop (at + 1) ys
        rest_too = let size = h.size in drop_more ys at y (omega arith) ∙ ap (λ z. z ∷ drop (at + 1) ys) (sym is_too)

        pub one_failed : p x y ≡ false → all_zip p xs ys ≡ false
        one_failed e = rw (h.given, rest, rest_too, e) refl

        pub one_passed : p x y ≡ true → Passed p xs ys (at + 1)
        one_passed e = record { size = h.size; given = rw (h.given, rest, rest_too, e) refl }
