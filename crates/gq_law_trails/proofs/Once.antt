-- Each walk is listed once.
use Rattle.std.proofs.Common.{◌≡◌, zero, suc, ◌+◌, Bool, true, false, ◌&&◌, cond, nat_eq, List, [], ◌∷◌, map, filter, refl, sym, ap, ap₂, ◌∙◌, zero-add, add-zero, arith}
use Rattle.std.proofs.Math.Bool.{and_assoc}
use Rattle.gq_base.specs.declared.RelId.{RelId}
use Rattle.gq_plan.specs.Assignments.{all_rels, is_rel, same_rel}
use Rattle.gq_plan.specs.Meaning.{far}
use Rattle.gq_plan.specs.Counts.{bit, hits, total}
use Rattle.gq_plan.proofs.Counts.{total_append, total_map, total_flat_map, total_filter, total_none, total_same, hits_at, hits_const_and, cond_and}
use Rattle.std.specs.Cmp.Lexicographic.{pointwise}
use Rattle.gq_plan.proofs.Products.{same_rel_is}
use Rattle.gq_law_plans.proofs.Numbering.{rel_hits}
use Rattle.gq_law_trails.specs.Walks.{is_walk, may_follow, pred, walks}
use Rattle.gq_law_trails.specs.Listed.{WalksListedOnce}

-- the walk that ends where it begins
stop_hits : (b : Bool) → hits (pointwise same_rel []) (cond b ([] ∷ []) []) ≡ bit b
stop_hits true = refl
stop_hits false = refl

no_stop : (b : Bool) (r : RelId) (l : List RelId) → hits (pointwise same_rel (r ∷ l)) (cond b ([] ∷ []) []) ≡ 0
no_stop true r l = refl
no_stop false r l = refl

walk_bit : (s d w : Bool) → cond s (cond d (bit w) 0) 0 ≡ bit (d && (s && w))
walk_bit s d w = grind arith

pub walks_once : WalksListedOnce
unfolding walks
walks_once g kind way low zero at used [] = stop_hits (nat_eq low 0)
walks_once g kind way low zero at used (r ∷ l) = no_stop (nat_eq low 0) r l
walks_once g kind way low (suc high) at used [] =
    total_append _ (cond (nat_eq low 0) ([] ∷ []) []) _
    ∙ ap₂ ◌+◌ (stop_hits (nat_eq low 0))
    (total_flat_map (λ m. bit (pointwise same_rel [] m)) (λ z. map (λ m. z ∷ m) (walks g kind way (pred low) high (far g way z) (z ∷ used))) (filter (may_follow g kind way at used) (all_rels g))
    ∙ total_none _ (λ z. total_map (λ m. bit (pointwise same_rel [] m)) (λ m. z ∷ m) (walks g kind way (pred low) high (far g way z) (z ∷ used)) ∙ total_none _ (λ m. refl) (walks g kind way (pred low) high (far g way z) (z ∷ used))) (filter (may_follow g kind way at used) (all_rels g)))
    ∙ add-zero _
walks_once g kind way low (suc high) at used (r ∷ l) =
    total_append _ (cond (nat_eq low 0) ([] ∷ []) []) _
    ∙ ap₂ ◌+◌ (no_stop (nat_eq low 0) r l)
    (total_flat_map (λ m. bit (pointwise same_rel (r ∷ l) m)) (λ z. map (λ m. z ∷ m) (walks g kind way (pred low) high (far g way z) (z ∷ used))) (filter starts (all_rels g))
    ∙ total_filter _ starts (all_rels g)
    ∙ total_same _ _ (λ z. each z (walks_once g kind way (pred low) high (far g way z) (z ∷ used) l)) (all_rels g)
    ∙ hits_at (same_rel r) (λ z. starts z && more z) r (same_rel_is r) (all_rels g)
    ∙ ap (λ n. cond (starts r && more r) n 0) (rel_hits g r)
    ∙ cond_and (is_rel g r) (starts r && more r)
    ∙ ap bit (sym (and_assoc (is_rel g r) (starts r) (more r))))
    ∙ zero-add _
  where
    starts : RelId → Bool
    starts z = may_follow g kind way at used z

    more : RelId → Bool
    more z = is_walk g kind way (pred low) high (far g way z) (z ∷ used) l

    each : (z : RelId) → hits (pointwise same_rel l) (walks g kind way (pred low) high (far g way z) (z ∷ used)) ≡ bit (more z)
        → cond (starts z) (total (λ m. bit (pointwise same_rel (r ∷ l) m)) (map (λ m. z ∷ m) (walks g kind way (pred low) high (far g way z) (z ∷ used)))) 0
        ≡ bit (same_rel r z && (starts z && more z))
    each z once =
        ap (λ n. cond (starts z) n 0)
        (total_map (λ m. bit (pointwise same_rel (r ∷ l) m)) (λ m. z ∷ m) (walks g kind way (pred low) high (far g way z) (z ∷ used))
        ∙ hits_const_and (same_rel r z) (pointwise same_rel l) (walks g kind way (pred low) high (far g way z) (z ∷ used))
        ∙ ap (λ n. cond (same_rel r z) n 0) once)
        ∙ walk_bit (starts z) (same_rel r z) (more z)
