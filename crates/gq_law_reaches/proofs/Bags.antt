-- The matches of a query's core, continued by its trails, are as a bag the matches of the query.
use Rattle.std.proofs.Common.{◌≡◌, ℕ, true, ◌&&◌, nat_lt, List, [], ◌∷◌, map, length, reverse, refl, sym, ap, ap₂, ◌∙◌, arith, subst}
use Rattle.std.specs.List.{AllByRecursion, list_all}
use Rattle.std.proofs.lemmas.List.{reverse-reverse}
use Rattle.gq_base.specs.Plain.{Graph}
use Rattle.gq_base.specs.Valid.{is_valid}
use Rattle.gq_base.specs.declared.RelId.{RelId}
use Rattle.gq_base.specs.declared.direction.Direction.{Direction}
use Rattle.gq_base.specs.declared.direction.Direction.TheVariants.{Forward, Backward}
use Rattle.gq_alternatives.specs.Matches.{is_match, pattern_matches}
use Rattle.gq_plan.specs.Assignments.{Assignment, assignments, is_rel}
use Rattle.gq_plan.specs.Meaning.{Partial}
use Rattle.gq_plan.specs.declared.NamedExpr.{NamedExpr}
use Rattle.gq_plan.proofs.Bags.{permutation_from_hits}
use Rattle.gq_plan.specs.Counts.{bit, hits}
use Rattle.gq_plan.proofs.Counts.{total_map}
use Rattle.gq_plan.proofs.Each.{each_flat_map, each_kept, each_map, each_then}
use Rattle.std.specs.Cmp.Lexicographic.{pointwise}
use Rattle.gq_plan.proofs.Products.{IsSized, each_sized}
use Rattle.gq_law_plans.specs.Bindings.{bound}
use Rattle.gq_law_plans.proofs.Lookups.{Found}
use Rattle.gq_law_plans.proofs.PlanCounts.{total_same_on}
use Rattle.gq_law_plans.proofs.Wholes.{bool_iff}
use Rattle.gq_law_trails.specs.Met.{is_trailed, turned}
use Rattle.gq_law_trails.specs.Real.{is_real}
use Rattle.gq_law_trails.specs.Trails.{Trailing, after_trails}
use Rattle.gq_plan.specs.declared.TrailPart.{TrailPart}
use Rattle.gq_scopes.specs.Patterns.{MapEntry, Pattern}
use Rattle.gq_law_reaches.specs.Bags.{ContinuedAreReaches, reach_of}
use Rattle.gq_law_reaches.specs.Core.{begin_of, continued, core_nodes, core_pattern, parts_from, patterns_of, trail_parts}
use Rattle.gq_law_reaches.specs.Cores.{AreReached, IsCored}
use Rattle.gq_law_reaches.specs.Reaches.{Reach, TrailPattern, Trailed, is_reach, reaches}
use Rattle.gq_law_reaches.specs.Turned.{AreTests, turned_all}
use Rattle.gq_law_reaches.proofs.Choices.{IsChosen, each_reach, reach_hits, same_reach, same_reach_is, same_reach_refl, same_rels, same_rels_is, same_rels_refl}
use Rattle.gq_law_reaches.proofs.Cored.{take_length}
use Rattle.gq_law_reaches.proofs.Cores.{cores_to_reaches}
use Rattle.gq_law_reaches.proofs.Filled.{IsBehind, each_behind, filled, known_behind, new_from, numbers_bound, numbers_found}
use Rattle.gq_law_reaches.proofs.Orders.{binds_from, core_reaches, ends_from}
use Rattle.gq_law_reaches.proofs.Whole.{IsFilled, assigned_nodes, assigned_rels, assigned_same}

-- ---- lists turned

turned_swap : (way : Direction) (l m : List RelId) → same_rels l (turned way m) ≡ same_rels (turned way l) m
turned_swap Forward l m = refl
turned_swap Backward l m =
    bool_iff (same_rels l (reverse m)) (same_rels (reverse l) m)
    (λ e. subst (λ z. same_rels (reverse l) z ≡ true) (ap reverse (sym (same_rels_is l (reverse m) e)) ∙ reverse-reverse m) (same_rels_refl (reverse l)))
    (λ e. subst (λ z. same_rels l z ≡ true) (sym (reverse-reverse l) ∙ ap reverse (sym (same_rels_is (reverse l) m e))) (same_rels_refl l))

all_swap : (parts : List TrailPart) (ls ms : List (List RelId)) → length ls ≡ length parts → length ms ≡ length parts
    → pointwise same_rels ls (turned_all parts ms) ≡ pointwise same_rels (turned_all parts ls) ms
all_swap [] [] [] e f = refl
all_swap [] (l ∷ ls) ms e f = absurd (omega arith)
all_swap [] [] (m ∷ ms) e f = absurd (omega arith)
all_swap (q ∷ qs) [] ms e f = absurd (omega arith)
all_swap (q ∷ qs) (l ∷ ls) [] e f = absurd (omega arith)
all_swap (q ∷ qs) (l ∷ ls) (m ∷ ms) e f = ap₂ ◌&&◌ (turned_swap q.way l m) (all_swap qs ls ms (omega arith) (omega arith))

turned_count : (parts : List TrailPart) (ls : List (List RelId)) → length ls ≡ length parts → length (turned_all parts ls) ≡ length parts
turned_count [] ls e = refl
turned_count (q ∷ qs) [] e = absurd (omega arith)
turned_count (q ∷ qs) (l ∷ ls) e = let rest : length (turned_all qs ls) ≡ length qs = turned_count qs ls (omega arith) in omega (arith, rest)

part_count : (test : MapEntry → NamedExpr) (p : Pattern) (known : List ℕ) (ws : List TrailPattern) → length (parts_from test p known ws) ≡ length ws
part_count test p known [] = refl
part_count test p known (w ∷ ws) = let rest : length (parts_from test p (w.left ∷ w.right ∷ known) ws) ≡ length ws = part_count test p (w.left ∷ w.right ∷ known) ws in omega (arith, rest)

-- ---- the core's matches, continued

module _ (g : Graph) (test : MapEntry → NamedExpr) (k : ℕ) (q : Trailed) (cored : IsCored k q) where
  abbrev p : Pattern
  p = q.pattern

  abbrev parts : List TrailPart
  parts = trail_parts test q

  reached : AreReached (core_nodes q) q.trails
  reached = core_reaches q cored.ends

  abbrev IsCore : Assignment → Type 0
  IsCore c = (length c.nodes ≡ k) × (length c.rels ≡ length p.rels)

  each_core : AllByRecursion IsCore (pattern_matches g (core_pattern k p))
  unfolding pattern_matches
  each_core =
      let r : Pattern = core_pattern k p in
      each_then (λ c. IsSized g (length r.names) (length r.rels) c × (is_match g r c ≡ true)) IsCore
      (λ c h. (h.0.node_count ∙ take_length k p.names cored.within, h.0.rel_count)) (pattern_matches g r)
      (each_kept (IsSized g (length r.names) (length r.rels)) (is_match g r) (assignments (length r.names) (length r.rels) g) (each_sized (length r.names) (length r.rels) g))

  all_bound : (v : ℕ) → known_behind parts (λ w. nat_lt w k) v ≡ nat_lt v (length p.names)
  all_bound =
      filled k (length p.names) parts cored.within (ends_from test p q.trails (core_nodes q) (length p.names) cored.ends)
      (λ v out low. binds_from test p q.trails (core_nodes q) v reached (cored.core v ∙ out) (cored.outside v out low))

  -- what trails make fills all variables, and has a list for each trail
  abbrev pub IsMade : Trailing → Type 0
  IsMade x = IsFilled (length p.names) (length p.rels) x.row × (length x.lists ≡ length parts)

  made : (c : Assignment) → IsCore c → (x : Trailing) → IsBehind (known_behind parts (λ w. nat_lt w k)) (begin_of c).rels (length parts) x → IsMade x
  made c core x behind =
      let nodes : (v : ℕ) → bound x.row.nodes v ≡ nat_lt v (length p.names) = λ v. behind.nodes v ∙ all_bound v in
      let rels : (y : ℕ) → bound x.row.rels y ≡ nat_lt y (length p.rels) =
      λ y. ap (λ bs. bound bs y) behind.rels_are ∙ numbers_bound c.rels y ∙ ap (nat_lt y) core.1 in (
        record {
          nodes = nodes;
          rels = rels;
          found_nodes = behind.found;
          found_rels = subst (λ bs. Found bs bs) (sym behind.rels_are) (numbers_found 0 c.rels);
        },
        behind.lists,
      )

  pub each_made : AllByRecursion IsMade (continued g k p parts)
  each_made =
      each_flat_map (λ a. (c : Assignment) × IsCore c × (a ≡ begin_of c)) IsMade (λ a. after_trails g (patterns_of p a) parts a [])
      (λ a h. each_then (IsBehind (known_behind parts (λ w. nat_lt w k)) (begin_of h.0).rels (length parts)) IsMade (made h.0 h.1) (after_trails g (patterns_of p a) parts a [])
      (each_behind g (patterns_of p a) parts a [] (λ w. nat_lt w k) (begin_of h.0).rels
      (λ v. ap (λ (b : Partial). bound b.nodes v) h.2 ∙ numbers_bound h.0.nodes v ∙ ap (nat_lt v) h.1.0)
      (ap (λ (b : Partial). b.rels) h.2)
      (new_from test p q.trails (core_nodes q) (λ w. nat_lt w k) (λ v. sym (cored.core v)) reached)
      (subst (λ (b : Partial). Found b.nodes b.nodes) (sym h.2) (numbers_found 0 h.0.nodes))))
      (map begin_of (pattern_matches g (core_pattern k p)))
      (each_map IsCore (λ a. (c : Assignment) × IsCore c × (a ≡ begin_of c)) begin_of (λ c h. (c, h, refl)) (pattern_matches g (core_pattern k p)) each_core)

  -- each as a match
  chosen : (x : Trailing) → IsMade x → IsChosen q (reach_of test q x)
  chosen x h = record {
    nodes = assigned_nodes (length p.names) (length p.rels) x.row h.0;
    rels = assigned_rels (length p.names) (length p.rels) x.row h.0;
    lists = turned_count parts x.lists h.1 ∙ part_count test p (core_nodes q) q.trails;
  }

  same_made : (r : Reach) → IsChosen q r → (x : Trailing) → IsMade x → same_reach r (reach_of test q x) ≡ is_trailed r.base (turned_all parts r.trails) x
  same_made r is x h =
      ap₂ ◌&&◌ (assigned_same (length p.names) (length p.rels) x.row h.0 r.base is.nodes is.rels)
      (all_swap parts r.trails x.lists (is.lists ∙ sym (part_count test p (core_nodes q) q.trails)) h.1)

  made_hits : is_valid g ≡ true → AreTests test → (r : Reach) → IsChosen q r
      → hits (same_reach r) (map (reach_of test q) (continued g k p parts)) ≡ bit ((is_real g r.base && list_all (list_all (is_rel g)) r.trails) && is_reach g q r)
  made_hits valid tests r is =
      total_map (λ s. bit (same_reach r s)) (reach_of test q) (continued g k p parts)
      ∙ total_same_on IsMade (λ x. bit (same_reach r (reach_of test q x))) (λ x. bit (is_trailed r.base (turned_all parts r.trails) x)) (λ x h. ap bit (same_made r is x h)) (continued g k p parts) each_made
      ∙ cores_to_reaches g test k q r.base r.trails valid tests cored is.nodes is.rels (sym is.lists)

-- the law
pub continued_are_reaches : ContinuedAreReaches
continued_are_reaches g test k q valid tests cored short =
    permutation_from_hits same_reach same_reach_refl same_reach_is (IsChosen q) (map (reach_of test q) (continued g k q.pattern (trail_parts test q))) (reaches g q)
    (each_map (IsMade g test k q cored) (IsChosen q) (reach_of test q) (chosen g test k q cored) (continued g k q.pattern (trail_parts test q)) (each_made g test k q cored))
    (each_reach g q)
    (λ r is. made_hits g test k q cored valid tests r is ∙ sym (reach_hits g q short r is))
