-- Walks that are too short for the bounds of their beginnings end nowhere.
use Rattle.std.proofs.Common.{◌≡◌, ℕ, zero, suc, ◌<◌, nat_eq, Bool, true, false, ◌&&◌, not, cond, Option, Some, None, List, [], ◌∷◌, ◌++◌, map, filter, flat_map, refl, sym, ap, ap₂, ◌∙◌, arith}
use Rattle.std.specs.List.{AllByRecursion, list_any}
use Rattle.std.proofs.lemmas.Bool.{and_parts}
use Rattle.std.proofs.lemmas.Bool.Decides.{nat_tests}
use Rattle.std.proofs.lemmas.List.Elements.{filter-append}
use Rattle.gq_base.specs.Plain.{Graph}
use Rattle.gq_base.specs.declared.NodeId.{NodeId}
use Rattle.gq_base.specs.declared.RelId.{RelId}
use Rattle.gq_base.specs.declared.direction.Direction.{Direction}
use Rattle.gq_plan.specs.Allowed.{at_same}
use Rattle.gq_plan.specs.Assignments.{all_rels, same_rel}
use Rattle.gq_plan.specs.Meaning.{near, far}
use Rattle.gq_law_plans.proofs.Counting.{at_same_is}
use Rattle.gq_law_trails.specs.Walks.{is_of_type, may_follow, pred, walks}
use Rattle.gq_law_trails.specs.Bounds.{AreBounds, IsBounded, ShortWalksEndNowhere, comes}

pub filter_map : {A B : Type 0} (p : B → Bool) (f : A → B) (xs : List A) → filter p (map f xs) ≡ map f (filter (λ x. p (f x)) xs)
filter_map p f [] = refl
filter_map p f (x ∷ xs) = elim (p (f x)) as (λ b. cond b (f x ∷ filter p (map f xs)) (filter p (map f xs)) ≡ map f (cond b (x ∷ filter (λ y. p (f y)) xs) (filter (λ y. p (f y)) xs))) [
  | true ↦ ap (λ l. f x ∷ l) (filter_map p f xs)
  | false ↦ filter_map p f xs
]

-- a walk from there is too short
abbrev IsShort : (NodeId → ℕ) → ℕ → Option NodeId → Type 0
IsShort d high None = Unit {0}
IsShort d high (Some n) = high < d n

module _ (g : Graph) (kind : List ℕ) (way : Direction) (d : NodeId → ℕ) where
  no_stop : (b : Bool) (high : ℕ) (at : Option NodeId) → IsShort d high at → filter (comes g way d at) (cond b ([] ∷ []) []) ≡ []
  no_stop false high at short = refl
  no_stop true high None short = refl
  no_stop true high (Some n) short = let no : nat_eq (d n) 0 ≡ false = grind (arith, nat_tests, short) in rw no refl

  next_short : (high : ℕ) (at to : Option NodeId) (used : List RelId) (r : RelId) → IsBounded g kind way d r → far g way r ≡ to → may_follow g kind way at used r ≡ true
      → IsShort d (suc high) at → IsShort d high to
  next_short high at None used r bounded leads may short = tt
  next_short high None (Some m) used r bounded leads may short =
      let parts = and_parts (is_of_type g kind r && at_same None (near g way r)) (not (list_any (same_rel r) used)) may in
      let lost = and_parts (is_of_type g kind r) (at_same None (near g way r)) parts.0 in
      absurd (cc lost.1)
  next_short high (Some n) (Some m) used r bounded leads may short =
      let parts = and_parts (is_of_type g kind r && at_same (Some n) (near g way r)) (not (list_any (same_rel r) used)) may in
      let more = and_parts (is_of_type g kind r) (at_same (Some n) (near g way r)) parts.0 in
      let low = bounded n m more.0 (sym (at_same_is (Some n) (near g way r) more.1)) leads in
      omega (arith, low, short)

  module _ (low high : ℕ) (at : Option NodeId) (used : List RelId) (short : IsShort d (suc high) at)
      (shorter : (r : RelId) → IsShort d high (far g way r) → filter (comes g way d (far g way r)) (walks g kind way low high (far g way r) (r ∷ used)) ≡ []) where
    abbrev from : RelId → List (List RelId)
    from r = map (λ l. r ∷ l) (walks g kind way low high (far g way r) (r ∷ used))

    each : (rs : List RelId) → AllByRecursion (IsBounded g kind way d) rs → filter (comes g way d at) (flat_map from (filter (may_follow g kind way at used) rs)) ≡ []
    each [] all = refl
    each (r ∷ rs) all = go (each rs all.1) (may_follow g kind way at used r) refl
      where
        go : filter (comes g way d at) (flat_map from (filter (may_follow g kind way at used) rs)) ≡ [] → (b : Bool) → may_follow g kind way at used r ≡ b
            → filter (comes g way d at) (flat_map from (cond b (r ∷ filter (may_follow g kind way at used) rs) (filter (may_follow g kind way at used) rs))) ≡ []
        go rest false may = rest
        go rest true may =
            filter-append (comes g way d at) (from r) (flat_map from (filter (may_follow g kind way at used) rs))
            ∙ ap₂ (λ l m. l ++ m)
            (filter_map (comes g way d at) (λ l. r ∷ l) (walks g kind way low high (far g way r) (r ∷ used))
            ∙ ap (map (λ l. r ∷ l)) (shorter r (next_short high at (far g way r) used r all.0 refl may short)))
            rest

  module _ (are : AreBounds g kind way d) where
    short_walks : (low high : ℕ) (at : Option NodeId) (used : List RelId) → IsShort d high at → filter (comes g way d at) (walks g kind way low high at used) ≡ []
    unfolding walks
    short_walks low zero at used short = no_stop (nat_eq low 0) zero at short
    short_walks low (suc high) at used short =
        filter-append (comes g way d at) (cond (nat_eq low 0) ([] ∷ []) []) _
        ∙ ap₂ (λ l m. l ++ m) (no_stop (nat_eq low 0) (suc high) at short)
        (each (pred low) high at used short (λ r more. short_walks (pred low) high (far g way r) (r ∷ used) more) (all_rels g) are)

pub short_walks_end_nowhere : ShortWalksEndNowhere
short_walks_end_nowhere g kind way d are low high at used short = short_walks g kind way d are low high (Some at) used short
