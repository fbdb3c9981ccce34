-- What a list's items give, where they give something, with one more item.
use Rattle.std.proofs.Common.{◌≡◌, ◌∙◌, ℕ, suc, ◌+◌, ◌<◌, Option, Some, None, List, [], ◌∷◌, ◌++◌, length, drop, get_or, drop-cons, add-one, append_assoc, sym, ap}
use Rattle.std.specs.Prelude.{filter_map}
use Rattle.std.specs.List.{cons_option}

module _ {A B : Type 0} (f : A → Option B) (xs : List A) (i : ℕ) (x : A) (low : i < length xs) (is : x ≡ get_or xs i x) where
  cut : drop i xs ≡ x ∷ drop (i + 1) xs
  cut = rw (add-one i) (drop-cons xs i x low ∙ ap (λ y. y ∷ drop (suc i) xs) (sym is))

  opened : (o : Option B) → o ≡ f x → filter_map f (drop i xs) ≡ cons_option o (filter_map f (drop (i + 1) xs))
  opened o e = ap (filter_map f) cut ∙ ap (λ p. cons_option p (filter_map f (drop (i + 1) xs))) (sym e)

  pub nothing_more : (before whole : List B) → None ≡ f x → before ++ filter_map f (drop i xs) ≡ whole → before ++ filter_map f (drop (i + 1) xs) ≡ whole
  nothing_more before whole e h = sym (ap (λ l. before ++ l) (opened None e)) ∙ h

  pub one_more : (before whole : List B) (v : B) → Some v ≡ f x → before ++ filter_map f (drop i xs) ≡ whole → (before ++ v ∷ []) ++ filter_map f (drop (i + 1) xs) ≡ whole
  one_more before whole v e h = append_assoc before (v ∷ []) (filter_map f (drop (i + 1) xs)) ∙ sym (ap (λ l. before ++ l) (opened (Some v) e)) ∙ h
