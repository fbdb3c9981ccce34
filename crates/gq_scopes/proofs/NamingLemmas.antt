-- The first places of names, as names are appended.
use Rattle.std.proofs.Common.{◌≡◌, ◌∙◌, ℕ, ◌≤◌, Bool, true, false, cond, Option, Some, None, List, [], ◌∷◌, ◌++◌, length, nat_eq, refl, sym, ap, arith}
use Rattle.std.specs.Prelude.{is_some, nat_lt}
use Rattle.std.specs.List.{position, position_or_len, list_any}
use Rattle.std.specs.Cmp.Lexicographic.{pointwise}
use Rattle.std.proofs.lemmas.Bool.Decides.{Decides-eqb, nat_tests}
use Rattle.std.proofs.lemmas.Slice.Eq.{slice_eq-Decides}
use Rattle.std.proofs.lemmas.Grind.{common_steps}
use Rattle.std.proofs.lemmas.List.Folds.{position_or_len_push}
use Rattle.gq_scopes.specs.Patterns.{Name, find_name, is_called}

-- ---- the first place that passes a test

module _ {X : Type 0} (p : X → Bool) where
  within : (xs : List X) → position_or_len p xs ≤ length xs
  within [] = grind arith
  within (x ∷ xs) = grind (arith, common_steps, within xs)

  some_passes : (xs : List X) → nat_lt (position_or_len p xs) (length xs) ≡ list_any p xs
  some_passes [] = refl
  some_passes (x ∷ xs) = grind (arith, nat_tests, common_steps, some_passes xs)

  some_place : (b : Bool) (n : ℕ) → is_some (cond b (Some n) None) ≡ b
  some_place true n = refl
  some_place false n = refl

  pub listed : (xs : List X) → is_some (position p xs) ≡ list_any p xs
  listed xs = some_place (nat_lt (position_or_len p xs) (length xs)) (position_or_len p xs) ∙ some_passes xs

  module _ (xs : List X) (y : X) where
    pub unless_it_passes : p y ≡ false → position p (xs ++ y ∷ []) ≡ position p xs
    unless_it_passes e = grind (arith, nat_tests, common_steps, position_or_len_push p xs y)

    pub where_one_passes : is_some (position p xs) ≡ true → position p (xs ++ y ∷ []) ≡ position p xs
    where_one_passes e = grind (arith, nat_tests, common_steps, position_or_len_push p xs y)

    pub where_none_passes : is_some (position p xs) ≡ false → p y ≡ true → position p (xs ++ y ∷ []) ≡ Some (length xs)
    where_none_passes e it = grind (arith, nat_tests, common_steps, within xs, position_or_len_push p xs y)

-- ---- names

texts_same : (m n : Name) → pointwise nat_eq m n ≡ true → m ≡ n
texts_same m n e = (slice_eq-Decides Decides-eqb m n (pointwise nat_eq m n) refl).0 e

module _ (places : Name → Option ℕ) (names : List (Option Name)) (h : (q : Name) → places q ≡ find_name names q) where
  pub with_missing : (q : Name) → places q ≡ find_name (names ++ None ∷ []) q
  with_missing q = h q ∙ sym (unless_it_passes (is_called q) names None refl)

  module _ (name : Name) where
    known : (q : Name) → is_some (places name) ≡ true → (b : Bool) → pointwise nat_eq name q ≡ b → places q ≡ find_name (names ++ Some name ∷ []) q
    known q there false e = h q ∙ sym (unless_it_passes (is_called q) names (Some name) e)
    known q there true e =
        let same : name ≡ q = texts_same name q e in
        h q ∙ sym (where_one_passes (is_called q) names (Some name) (sym (ap is_some (h q)) ∙ ap (λ n. is_some (places n)) (sym same) ∙ there))

    pub with_known : is_some (places name) ≡ true → (q : Name) → places q ≡ find_name (names ++ Some name ∷ []) q
    with_known there q = known q there (pointwise nat_eq name q) refl

    new : (q : Name) → is_some (places name) ≡ false → (b : Bool) → pointwise nat_eq name q ≡ b → cond b (Some (length names)) (places q) ≡ find_name (names ++ Some name ∷ []) q
    new q absent false e = h q ∙ sym (unless_it_passes (is_called q) names (Some name) e)
    new q absent true e =
        let same : name ≡ q = texts_same name q e in
        sym (where_none_passes (is_called q) names (Some name) (sym (ap is_some (h q)) ∙ ap (λ n. is_some (places n)) (sym same) ∙ absent) e)

    pub with_new : is_some (places name) ≡ false → (q : Name) → cond (pointwise nat_eq name q) (Some (length names)) (places q) ≡ find_name (names ++ Some name ∷ []) q
    with_new absent q = new q absent (pointwise nat_eq name q) refl
