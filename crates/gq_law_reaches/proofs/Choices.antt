-- How often nodes, relationships and lists stand among all choices: once, where they are of the graph and no list is too long.
use Rattle.std.proofs.Common.{◌≡◌, ℕ, suc, ◌+◌, ◌≤◌, Bool, true, false, ◌&&◌, cond, nat_eq, nat_le, nat_lt, List, [], ◌∷◌, map, length, slice_get, ◌⊎◌, inl, inr, refl, sym, ap, ap₂, ◌∙◌, arith, true≢false}
use Rattle.std.specs.List.{AllByRecursion, list_all, range_with_len}
use Rattle.std.proofs.lemmas.Bool.{and_from, and_parts, cases_eq, eq-eqb, ne_eqb}
use Rattle.std.proofs.lemmas.Bool.Decides.{nat_tests}
use Rattle.gq_base.specs.Plain.{Graph}
use Rattle.gq_base.specs.declared.RelId.{RelId}
use Rattle.gq_alternatives.specs.Matches.{has_type, is_match}
use Rattle.gq_law_plans.proofs.Counting.{cond_both}
use Rattle.gq_law_plans.proofs.PlanCounts.{total_same_on}
use Rattle.gq_law_plans.proofs.Wholes.{rel_self}
use Rattle.gq_law_plans.proofs.Numbering.{assignment_hits, list_hits, rel_hits}
use Rattle.gq_law_trails.specs.Real.{is_real}
use Rattle.gq_law_trails.specs.Walks.{chained}
use Rattle.gq_plan.specs.Counts.{bit, hits}
use Rattle.gq_plan.proofs.Counts.{total_map, total_flat_map, total_filter, total_none, total_same, hits_and_const, hits_at, hits_const_and, hits_range, cond_and}
use Rattle.gq_plan.proofs.Each.{each_flat_map, each_kept, each_map, each_of, each_then}
use Rattle.std.specs.Cmp.Lexicographic.{pointwise}
use Rattle.gq_plan.proofs.Products.{IsSized, each_sized, each_tuple, same_assignment, same_assignment_is, same_assignment_refl, same_list_is, same_list_refl, same_rel_is}
use Rattle.gq_plan.specs.Assignments.{Assignment, all_rels, assignments, is_rel, same_rel, tuples}
use Rattle.gq_law_reaches.specs.Bags.{AreShort}
use Rattle.gq_law_reaches.specs.Reaches.{Reach, TrailPattern, Trailed, differ_in, end_of, is_reach, reach_choices, reaches, start_of, trail_holds, trail_lists, trails_hold}

-- ---- the same lists

abbrev pub same_rels : List RelId → List RelId → Bool
same_rels l m = pointwise same_rel l m

pub same_rels_is : (l m : List RelId) → same_rels l m ≡ true → m ≡ l
same_rels_is = same_list_is same_rel same_rel_is

pub same_rels_refl : (l : List RelId) → same_rels l l ≡ true
same_rels_refl = same_list_refl same_rel rel_self

-- nodes, relationships and lists are the same
abbrev pub same_reach : Reach → Reach → Bool
same_reach r s = same_assignment r.base s.base && pointwise same_rels r.trails s.trails

pub same_reach_refl : (r : Reach) → same_reach r r ≡ true
same_reach_refl r =
    and_from (same_assignment r.base r.base) (pointwise same_rels r.trails r.trails) (same_assignment_refl r.base) (same_list_refl same_rels same_rels_refl r.trails)

pub same_reach_is : (r s : Reach) → same_reach r s ≡ true → s ≡ r
same_reach_is r s e =
    let parts = and_parts (same_assignment r.base s.base) (pointwise same_rels r.trails s.trails) e in
    λ i. record { base = same_assignment_is r.base s.base parts.0 i; trails = same_list_is same_rels same_rels_is r.trails s.trails parts.1 i }

-- ---- lists of at most so many items

module _ {X : Type 0} (same : X → X → Bool) where
  same_many : (l m : List X) → pointwise same l m ≡ true → length m ≡ length l
  same_many [] [] e = refl
  same_many [] (z ∷ m) e = absurd (true≢false (sym e))
  same_many (x ∷ l) [] e = absurd (true≢false (sym e))
  same_many (x ∷ l) (z ∷ m) e = ap suc (same_many l m (and_parts (same x z) (pointwise same l m) e).1)

  other_many : (l m : List X) → (length m ≡ length l → ⊥) → pointwise same l m ≡ false
  other_many l m other = go (pointwise same l m) refl
    where
      go : (b : Bool) → pointwise same l m ≡ b → b ≡ false
      go true e = absurd (other (same_many l m e))
      go false e = refl

  -- a list stands among those of n items only where it has n
  so_many : (stands : X → Bool) (xs : List X) → ((x : X) → hits (same x) xs ≡ bit (stands x)) → (n : ℕ) (l : List X)
      → hits (pointwise same l) (tuples n xs) ≡ cond (nat_eq (length l) n) (bit (list_all stands l)) 0
  so_many stands xs once n l = go (cases_eq (length l) n)
    where
      go : (length l ≡ n) ⊎ (length l ≡ n → ⊥) → hits (pointwise same l) (tuples n xs) ≡ cond (nat_eq (length l) n) (bit (list_all stands l)) 0
      go (inl e) =
          ap (λ k. hits (pointwise same l) (tuples k xs)) (sym e) ∙ list_hits same stands xs once l
          ∙ ap (λ b. cond b (bit (list_all stands l)) 0) (sym (eq-eqb (length l) n e))
      go (inr other) =
          total_same_on (λ m. AllByRecursion (λ (x : X). Unit {0}) m × (length m ≡ n)) (λ m. bit (pointwise same l m)) (λ m. 0)
          (λ m h. ap bit (other_many l m (λ e. other (sym e ∙ h.1)))) (tuples n xs) (each_tuple (λ (x : X). Unit {0}) n xs (each_of (λ (x : X). Unit {0}) (λ x. tt) xs))
          ∙ total_none (λ (m : List X). 0) (λ m. refl) (tuples n xs)
          ∙ ap (λ b. cond b (bit (list_all stands l)) 0) (sym (ne_eqb (length l) n other))

-- a list of relationships stands once among those of at most so many, where they are of the graph
abbrev pub is_listed : ℕ → Graph → List RelId → Bool
is_listed most g l = nat_lt (length l) (0 + (most + 1)) && list_all (is_rel g) l

pub listed : (most : ℕ) (g : Graph) (l : List RelId) → hits (same_rels l) (trail_lists most g) ≡ bit (is_listed most g l)
listed most g l =
    let real : Bool = list_all (is_rel g) l in
    let ns : List ℕ = range_with_len 0 (most + 1) in
    total_flat_map (λ m. bit (same_rels l m)) (λ n. tuples n (all_rels g)) ns
    ∙ total_same _ (λ n. bit (nat_eq (length l) n && real))
    (λ n. so_many same_rel (is_rel g) (all_rels g) (rel_hits g) n l ∙ cond_both (nat_eq (length l) n) real) ns
    ∙ hits_and_const (λ n. nat_eq (length l) n) real ns
    ∙ ap (λ c. cond real c 0) (hits_range (length l) 0 (most + 1) (omega arith))
    ∙ cond_and (nat_lt (length l) (0 + (most + 1))) real

-- ---- choices

-- a choice has so many nodes, relationships and lists
pub record IsChosen (q : Trailed) (r : Reach) : Type 0 where
  pub nodes : length r.base.nodes ≡ length q.pattern.names
  pub rels : length r.base.rels ≡ length q.pattern.rels
  pub lists : length r.trails ≡ length q.trails

module _ (g : Graph) (q : Trailed) where
  abbrev choices : ℕ → List Reach
  choices most = reach_choices most g q

  pub choice_hits : (most : ℕ) (r : Reach) → IsChosen q r → hits (same_reach r) (choices most) ≡ bit (is_real g r.base && list_all (is_listed most g) r.trails)
  unfolding reach_choices
  choice_hits most r is =
      let lists : List (List (List RelId)) = tuples (length q.trails) (trail_lists most g) in
      let all : List Assignment = assignments (length q.pattern.names) (length q.pattern.rels) g in
      total_flat_map (λ s. bit (same_reach r s)) (λ t. map (λ ls. record { base = t; trails = ls }) lists) all
      ∙ total_same _ (λ t. bit (same_assignment r.base t && list_all (is_listed most g) r.trails))
      (λ t. total_map (λ s. bit (same_reach r s)) (λ ls. record { base = t; trails = ls }) lists
      ∙ hits_const_and (same_assignment r.base t) (pointwise same_rels r.trails) lists
      ∙ ap (λ c. cond (same_assignment r.base t) c 0)
      (ap (λ n. hits (pointwise same_rels r.trails) (tuples n (trail_lists most g))) (sym is.lists) ∙ list_hits same_rels (is_listed most g) (trail_lists most g) (listed most g) r.trails)
      ∙ cond_both (same_assignment r.base t) (list_all (is_listed most g) r.trails)) all
      ∙ hits_and_const (same_assignment r.base) (list_all (is_listed most g) r.trails) all
      ∙ ap (λ c. cond (list_all (is_listed most g) r.trails) c 0) (assignment_hits g (length q.pattern.names) (length q.pattern.rels) r.base is.nodes is.rels)
      ∙ cond_and (is_real g r.base) (list_all (is_listed most g) r.trails)

  pub each_chosen : (most : ℕ) → AllByRecursion (IsChosen q) (choices most)
  unfolding reach_choices
  each_chosen most =
      each_flat_map (IsSized g (length q.pattern.names) (length q.pattern.rels)) (IsChosen q) (λ t. map (λ ls. record { base = t; trails = ls }) (tuples (length q.trails) (trail_lists most g)))
      (λ t sized. each_map (λ ls. AllByRecursion (λ (l : List RelId). Unit {0}) ls × (length ls ≡ length q.trails)) (IsChosen q) (λ ls. record { base = t; trails = ls })
      (λ ls h. record { nodes = sized.node_count; rels = sized.rel_count; lists = h.1 })
      (tuples (length q.trails) (trail_lists most g)) (each_tuple (λ (l : List RelId). Unit {0}) (length q.trails) (trail_lists most g) (each_of (λ (l : List RelId). Unit {0}) (λ l. tt) (trail_lists most g))))
      (assignments (length q.pattern.names) (length q.pattern.rels) g) (each_sized (length q.pattern.names) (length q.pattern.rels) g)

  -- ---- matches

  pub each_reach : AllByRecursion (IsChosen q) (reaches g q)
  unfolding reaches
  each_reach = each_then (λ r. IsChosen q r × (is_reach g q r ≡ true)) (IsChosen q) (λ r h. h.0) (reaches g q) (each_kept (IsChosen q) (is_reach g q) (choices 16) (each_chosen 16))

  -- the lists of trails that hold are short enough
  short_list : (t : Assignment) (w : TrailPattern) (l : List RelId) → w.high ≤ 16 → trail_holds g t w l ≡ true → nat_lt (length l) 17 ≡ true
  short_list t w l few held =
      let asked = and_parts (nat_le w.low (length l) && nat_le (length l) w.high) (list_all (λ (r : RelId). has_type g.catalog (w.kind ∷ []) r.table) l && chained g (slice_get t.nodes (start_of w)) l (slice_get t.nodes (end_of w))) held in
      let most : nat_le (length l) w.high ≡ true = (and_parts (nat_le w.low (length l)) (nat_le (length l) w.high) asked.0).1 in
      grind (arith, nat_tests, most, few)

  short_lists : (t : Assignment) (ws : List TrailPattern) (ls : List (List RelId)) → length ls ≡ length ws → AreShort ws → trails_hold g t ws ls ≡ true
      → list_all (is_listed 16 g) ls ≡ list_all (list_all (is_rel g)) ls
  short_lists t [] [] e few held = refl
  short_lists t [] (l ∷ ls) e few held = absurd (omega arith)
  short_lists t (w ∷ ws) [] e few held = absurd (omega arith)
  short_lists t (w ∷ ws) (l ∷ ls) e few held =
      let both = and_parts (trail_holds g t w l) (trails_hold g t ws ls) held in
      ap₂ ◌&&◌ (ap (λ b. b && list_all (is_rel g) l) (short_list t w l few.0 both.0)) (short_lists t ws ls (omega arith) few.1 both.1)

  where_so : (a b c m : Bool) → (m ≡ true → b ≡ c) → bit ((a && b) && m) ≡ bit ((a && c) && m)
  where_so a b c true h = ap (λ d. bit ((a && d) && true)) (h refl)
  where_so a b c false h = grind arith

  -- so a choice stands once among the matches where it is of the graph and a match
  pub reach_hits : AreShort q.trails → (r : Reach) → IsChosen q r
      → hits (same_reach r) (reaches g q) ≡ bit ((is_real g r.base && list_all (list_all (is_rel g)) r.trails) && is_reach g q r)
  unfolding reaches
  reach_hits few r is =
      total_filter (λ s. bit (same_reach r s)) (is_reach g q) (choices 16)
      ∙ total_same _ _ (λ s. cond_and (same_reach r s) (is_reach g q s)) (choices 16)
      ∙ hits_at (same_reach r) (is_reach g q) r (same_reach_is r) (choices 16)
      ∙ ap (λ n. cond (is_reach g q r) n 0) (choice_hits 16 r is)
      ∙ cond_and (is_real g r.base && list_all (is_listed 16 g) r.trails) (is_reach g q r)
      ∙ where_so (is_real g r.base) (list_all (is_listed 16 g) r.trails) (list_all (list_all (is_rel g)) r.trails) (is_reach g q r)
      (λ so. short_lists r.base q.trails r.trails is.lists few
      (and_parts (trails_hold g r.base q.trails r.trails) (list_all (λ (p : TrailPattern). differ_in q r p.clause) q.trails)
      (and_parts (is_match g q.pattern r.base) (trails_hold g r.base q.trails r.trails && list_all (λ (p : TrailPattern). differ_in q r p.clause) q.trails) so).1).0)
