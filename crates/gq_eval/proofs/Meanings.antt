-- What named expressions over a graph mean in a row.
use Rattle.std.proofs.Common.{◌≡◌, ◌∙◌, ℕ, zero, suc, List, [], ◌∷◌, ◌++◌, refl, sym, ap, ap₂}
use Rattle.std.specs.Prelude.{flat_map, slice_get}
use Rattle.std.proofs.lemmas.List.{map-append}
use Rattle.gq_base.specs.Plain.{Graph}
use Rattle.gq_eval.specs.Asked.{Asked, answers, asked_of}
use Rattle.gq_expr.specs.Meaning.{meaning}
use Rattle.gq_expr.specs.Operators.{Outcome}
use Rattle.gq_expr.specs.Reading as reading
use Rattle.gq_plan.specs.Meaning.{found}
use Rattle.gq_plan.specs.Outcomes.{meanings_of}
use Rattle.gq_plan.specs.declared.bound.NamedExpr.{NamedExpr}

module _ (g : Graph) (row : reading.Assignment) where
  pub answers_are : (es : List NamedExpr) → answers row (asked_of g es) ≡ meanings_of g row es
  answers_are [] = refl
  answers_are (e ∷ es) = ap (λ os. meaning g row e.expr ∷ os) (answers_are es)

  one_is : (es : List NamedExpr) (i : ℕ) → answers row (found (slice_get (asked_of g es) i)) ≡ meanings_of g row (found (slice_get es i))
  one_is [] i = refl
  one_is (e ∷ es) zero = refl
  one_is (e ∷ es) (suc i) = one_is es i

  -- those with these numbers
  pub numbered_are : (es : List NamedExpr) (is : List ℕ) → answers row (flat_map (λ i. found (slice_get (asked_of g es) i)) is) ≡ meanings_of g row (flat_map (λ i. found (slice_get es i)) is)
  numbered_are es [] = refl
  numbered_are es (i ∷ is) =
      map-append (λ (a : Asked). meaning a.graph row a.expr) (found (slice_get (asked_of g es) i)) (flat_map (λ k. found (slice_get (asked_of g es) k)) is)
      ∙ ap₂ (λ (xs ys : List Outcome). xs ++ ys) (one_is es i) (numbered_are es is)
      ∙ sym (map-append (λ (e : NamedExpr). meaning g row e.expr) (found (slice_get es i)) (flat_map (λ k. found (slice_get es k)) is))
