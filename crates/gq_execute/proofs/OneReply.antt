-- Rows and a refusal are both permitted only where not all outcomes are looked at.
use Rattle.std.proofs.Common.{◌≡◌, ℕ, zero, suc, true, false, Option, Some, None, List, [], ◌∷◌, map, Result, Ok, Err, refl, sym, ap, ◌∙◌, subst, arith}
use Rattle.std.specs.Prelude.{◌||◌, nat_lt, IsSome}
use Rattle.std.specs.List.{Contains}
use Rattle.std.specs.List.Sorted.{IsPermutation}
use Rattle.std.proofs.lemmas.List.Sorted.{Contains-permutation, IsPermutation-sym, IsPermutation-trans}
use Rattle.gq_base.specs.Values.{Val}
use Rattle.gq_expr.specs.declared.Fault.{Fault}
use Rattle.gq_plan.specs.Outcomes.{Row}
use Rattle.gq_law_plans.proofs.Reordered.{permuted_flat_map}
use Rattle.gq_kept.proofs.Bags.{kept_bag}
use Rattle.gq_kept.specs.Answers.{cut_of, first_of, row_in, rows_in}
use Rattle.gq_execute.specs.Replies.{Question, Rows, Faulted, TooManyRows, IsPermitted, has_heavy_clause, has_heavy_test, is_too_many, some_heavy}

-- rows have no fault among them
no_fault : (f : Fault) (rs : List Row) → Contains {X = Result Row Fault} (map Ok rs) (Err f) → ⊥
no_fault f [] (k, low, is) = absurd (omega (arith, low))
no_fault f (r ∷ rs) (zero, low, is) = let no : ◌≡◌ {A = Result Row Fault} (Ok r) (Err f) = is in absurd (cc no)
no_fault f (r ∷ rs) (suc k, low, is) = no_fault f rs (k, omega (arith, low), is)

module _ (a : Question) where
  -- two listings are one bag
  one_bag : (xs ys : List (Result Row Fault)) → IsPermutation xs ys → is_too_many a xs ≡ is_too_many a ys
  one_bag xs ys same =
      ap (λ n. nat_lt a.most n || (some_heavy a 0 a.bound.alternatives || (has_heavy_test a || has_heavy_clause a))) (kept_bag a.bound (rows_in xs) (rows_in ys) (permuted_flat_map row_in xs ys same))

  module _ (lines : List (List Val)) (rows : IsPermitted a (Rows lines)) where
    -- so rows and too many rows are never both permitted
    pub not_too_many : IsPermitted a TooManyRows → ⊥
    not_too_many many =
        let same = IsPermutation-trans _ _ _ (IsPermutation-sym _ _ rows.as_a_bag) many.as_a_bag in
        let no : false ≡ true = sym rows.permits.0 ∙ one_bag rows.listing many.listing same ∙ many.permits in
        absurd (cc no)

    -- and rows and a fault only where not all outcomes are looked at
    pub some_looked : (f : Fault) → IsPermitted a (Faulted f) → IsSome (cut_of a.bound)
    some_looked f fault = by (cut_of a.bound) refl
      where
        by : (cut : Option ℕ) → cut_of a.bound ≡ cut → IsSome cut
        by (Some n) e = refl
        by None e =
            let same = IsPermutation-trans _ _ _ (IsPermutation-sym _ _ fault.as_a_bag) rows.as_a_bag in
            let here : Contains fault.listing (Err f) = subst (λ c. Contains (first_of c fault.listing) (Err f)) e fault.permits in
            let there : Contains rows.listing (Err f) = Contains-permutation _ _ _ same here in
            let all : rows.listing ≡ map Ok rows.permits.1.rows = ap (λ c. first_of c rows.listing) (sym e) ∙ rows.permits.1.looked in
            absurd (no_fault f rows.permits.1.rows (subst (λ l. Contains l (Err f)) all there))
