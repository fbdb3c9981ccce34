-- What optional clauses make of a row does not hang on the order in which their matches are listed.
use Rattle.std.proofs.Common.{◌≡◌, ℕ, Bool, true, false, cond, Option, Some, None, List, [], ◌∷◌, ◌++◌, filter, flat_map, IsPermutation, refl, ap, subst, arith}
use Rattle.std.proofs.lemmas.List.Sorted.{IsPermutation-refl, IsPermutation-append, IsPermutation-trans, length_permutation}
use Rattle.gq_base.specs.Plain.{Graph}
use Rattle.gq_expr.specs.Reading as reading
use Rattle.gq_expr.specs.declared.Fault.{Fault}
use Rattle.gq_law_plans.proofs.Reordered.{permuted_flat_map}
use Rattle.gq_plan.specs.Assignments.{Assignment}
use Rattle.gq_plan.specs.Marked.{Marked, marked}
use Rattle.gq_plan.specs.declared.bound.OptionalPart.{OptionalPart}
use Rattle.gq_outer.specs.Clauses.{agrees, after_clause, after_clauses, continuations, or_alone, unless_marked, with_match}
use Rattle.gq_law_clauses.specs.Laws.{AreSameBags, ClausesAreOfBags}

-- ---- lists

-- lists that are permutations of each other, item by item, are so together
pub permuted_each : {A B : Type 0} (f h : A → List B) → ((x : A) → IsPermutation (f x) (h x)) → (xs : List A) → IsPermutation (flat_map f xs) (flat_map h xs)
permuted_each f h same [] = IsPermutation-refl []
permuted_each f h same (x ∷ xs) = IsPermutation-append _ _ _ _ (same x) (permuted_each f h same xs)

pub permuted_both : {A B : Type 0} (f h : A → List B) → ((x : A) → IsPermutation (f x) (h x)) → (xs ys : List A) → IsPermutation xs ys → IsPermutation (flat_map f xs) (flat_map h ys)
permuted_both f h same xs ys p = IsPermutation-trans _ _ _ (permuted_flat_map f xs ys p) (permuted_each f h same ys)

abbrev one_if : {A : Type 0} → (A → Bool) → A → List A
one_if p x = cond (p x) (x ∷ []) []

filter_is : {A : Type 0} (p : A → Bool) (xs : List A) → flat_map (one_if p) xs ≡ filter p xs
filter_is p [] = refl
filter_is {A} p (x ∷ xs) = go (p x) (filter_is p xs)
  where
    go : (b : Bool) → flat_map (one_if p) xs ≡ filter p xs → cond b (x ∷ []) [] ++ flat_map (one_if p) xs ≡ cond b (x ∷ filter p xs) (filter p xs)
    go true e = ap (λ l. x ∷ l) e
    go false e = e

pub permuted_filter : {A : Type 0} (p : A → Bool) (xs ys : List A) → IsPermutation xs ys → IsPermutation (filter p xs) (filter p ys)
permuted_filter p xs ys h = subst (λ l. IsPermutation l (filter p ys)) (filter_is p xs) (subst (IsPermutation (flat_map (one_if p) xs)) (filter_is p ys) (permuted_flat_map (one_if p) xs ys h))

-- ---- one clause

permuted_alone : (row : reading.Assignment) (xs ys : List Marked) → IsPermutation xs ys → IsPermutation (or_alone row xs) (or_alone row ys)
permuted_alone row [] [] h = IsPermutation-refl _
permuted_alone row [] (y ∷ ys) h = let same = length_permutation [] (y ∷ ys) h in absurd (omega arith)
permuted_alone row (x ∷ xs) [] h = let same = length_permutation (x ∷ xs) [] h in absurd (omega arith)
permuted_alone row (x ∷ xs) (y ∷ ys) h = h

module _ (g : Graph) where
  pub permuted_continuations : (known : List ℕ) (part : OptionalPart) (row : reading.Assignment) (ms ns : List Assignment) → IsPermutation ms ns
      → IsPermutation (continuations g known part ms row) (continuations g known part ns row)
  permuted_continuations known part row ms ns h =
      permuted_flat_map (λ t. marked g part.conjuncts (with_match part.nodes part.rels row t)) _ _ (permuted_filter (agrees known part.nodes row) ms ns h)

  pub permuted_clause : (known : List ℕ) (part : OptionalPart) (m : Marked) (ms ns : List Assignment) → IsPermutation ms ns
      → IsPermutation (after_clause g known part ms m) (after_clause g known part ns m)
  unfolding after_clause
  permuted_clause known part m ms ns h = go m.mark
    where
      go : (o : Option Fault) → IsPermutation
          (unless_marked m o (or_alone m.row (continuations g known part ms m.row)))
          (unless_marked m o (or_alone m.row (continuations g known part ns m.row)))
      go None = permuted_alone m.row _ _ (permuted_continuations known part m.row ms ns h)
      go (Some f) = IsPermutation-refl _

  -- ---- all clauses

  permuted_clauses : (known : List ℕ) (parts : List OptionalPart) (mss nss : List (List Assignment)) (m : Marked) → AreSameBags mss nss
      → IsPermutation (after_clauses g known parts mss m) (after_clauses g known parts nss m)
  unfolding after_clauses
  permuted_clauses known [] mss nss m h = IsPermutation-refl _
  permuted_clauses known (p ∷ ps) [] [] m h = IsPermutation-refl _
  permuted_clauses known (p ∷ ps) [] (ns ∷ nss) m h = absurd h
  permuted_clauses known (p ∷ ps) (ms ∷ mss) [] m h = absurd h
  permuted_clauses known (p ∷ ps) (ms ∷ mss) (ns ∷ nss) m h =
      permuted_both (after_clauses g (known ++ p.nodes) ps mss) (after_clauses g (known ++ p.nodes) ps nss) (λ r. permuted_clauses (known ++ p.nodes) ps mss nss r h.1) _ _ (permuted_clause known p m ms ns h.0)

pub clauses_permuted : ClausesAreOfBags
clauses_permuted g known parts mss nss m h = permuted_clauses g known parts mss nss m h
