-- A list that is free of relationships which are all different is, with them, a list of different relationships.
use Rattle.std.proofs.Common.{◌≡◌, Bool, true, false, not, ◌&&◌, ◌||◌, List, [], ◌∷◌, refl, sym, ap, ap₂, ◌∙◌, arith}
use Rattle.std.specs.List.{list_all, list_any}
use Rattle.std.proofs.lemmas.List.Folds.{list_any-append}
use Rattle.gq_base.specs.Lists.{all_distinct}
use Rattle.gq_base.specs.declared.RelId.{RelId}
use Rattle.gq_plan.specs.Assignments.{same_rel}
use Rattle.gq_law_plans.proofs.Lookups.{eqb_swap}
use Rattle.gq_law_trails.specs.Walks.{are_free}
use Rattle.gq_law_trails.specs.Meant.{FreeIsDistinct}

rel_swap : (q r : RelId) → same_rel q r ≡ same_rel r q
rel_swap q r = ap₂ ◌&&◌ (eqb_swap q.table r.table) (eqb_swap q.row r.row)

nor : (a b : Bool) → not (a || b) ≡ (not a && not b)
nor true b = refl
nor false b = refl

and_four : (a b c d : Bool) → ((a && b) && (c && d)) ≡ ((a && c) && (b && d))
and_four a b c d = grind arith

-- none of a list is one of these
abbrev pub unused : List RelId → List RelId → Bool
unused used l = list_all (λ (r : RelId). not (list_any (same_rel r) used)) l

pub unused_more : (u : RelId) (used l : List RelId) → unused (u ∷ used) l ≡ (not (list_any (same_rel u) l) && unused used l)
unused_more u used [] = refl
unused_more u used (r ∷ l) =
    ap₂ ◌&&◌ (nor (same_rel r u) (list_any (same_rel r) used) ∙ ap (λ b. not b && not (list_any (same_rel r) used)) (rel_swap r u)) (unused_more u used l)
    ∙ and_four (not (same_rel u r)) (not (list_any (same_rel r) used)) (not (list_any (same_rel u) l)) (unused used l)
    ∙ ap (λ b. b && (not (list_any (same_rel r) used) && unused used l)) (sym (nor (same_rel u r) (list_any (same_rel u) l)))

regrouped : (n a b d : Bool) → (n && ((a && b) && d)) ≡ ((n && b) && (a && d))
regrouped n a b d = grind arith

pub free_is : (used l : List RelId) → are_free used l ≡ (unused used l && all_distinct same_rel l)
free_is used [] = refl
free_is used (r ∷ l) =
    ap (λ b. not (list_any (same_rel r) used) && b) (free_is (r ∷ used) l ∙ ap (λ b. b && all_distinct same_rel l) (unused_more r used l))
    ∙ regrouped (not (list_any (same_rel r) used)) (not (list_any (same_rel r) l)) (unused used l) (all_distinct same_rel l)

free_more : (u : RelId) (used l : List RelId) → are_free (u ∷ used) l ≡ (not (list_any (same_rel u) l) && are_free used l)
free_more u used l =
    free_is (u ∷ used) l ∙ ap (λ b. b && all_distinct same_rel l) (unused_more u used l)
    ∙ assoc (not (list_any (same_rel u) l)) (unused used l) (all_distinct same_rel l)
    ∙ ap (λ b. not (list_any (same_rel u) l) && b) (sym (free_is used l))
  where
    assoc : (a b c : Bool) → ((a && b) && c) ≡ (a && (b && c))
    assoc true b c = refl
    assoc false b c = refl

free_none : (l : List RelId) → all_distinct same_rel l ≡ are_free [] l
free_none l = sym (free_is [] l ∙ ap (λ b. b && all_distinct same_rel l) (all_true l))
  where
    all_true : (l : List RelId) → unused [] l ≡ true
    all_true [] = refl
    all_true (r ∷ l) = all_true l

pub free_distinct : FreeIsDistinct
free_distinct [] l = free_none l
free_distinct (u ∷ used) l =
    ap₂ ◌&&◌ (ap not (list_any-append (same_rel u) used l) ∙ nor (list_any (same_rel u) used) (list_any (same_rel u) l)) (free_distinct used l)
    ∙ and_four (not (list_any (same_rel u) used)) (not (list_any (same_rel u) l)) (all_distinct same_rel used) (are_free used l)
    ∙ ap (λ b. (not (list_any (same_rel u) used) && all_distinct same_rel used) && b) (sym (free_more u used l))
