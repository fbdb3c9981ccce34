-- The matches of a core, continued by trails, hold each assignment with its lists once.
use Rattle.std.proofs.Common.{◌≡◌, ℕ, zero, suc, ◌+◌, ◌<◌, ◌≤◌, Bool, true, ◌&&◌, ◌||◌, cond, nat_eq, nat_lt, Option, Some, List, [], ◌∷◌, map, length, take, slice_get, refl, sym, ap, ap₂, ◌∙◌, subst, arith, zero-add}
use Rattle.std.specs.List.{AllByRecursion, list_all, list_any, range_with_len}
use Rattle.gq_base.specs.Plain.{Graph}
use Rattle.gq_alternatives.specs.Matches.{is_match, pattern_matches}
use Rattle.gq_plan.specs.Allowed.{at_same}
use Rattle.gq_plan.specs.Assignments.{Assignment, assignments, same_node, same_rel}
use Rattle.gq_plan.specs.Counts.{bit, hits}
use Rattle.gq_plan.proofs.Counts.{total_map, total_filter, total_same, hits_at, cond_and}
use Rattle.gq_plan.proofs.Each.{each_kept, each_map, each_then}
use Rattle.gq_plan.proofs.Permuted.{range_any}
use Rattle.std.specs.Cmp.Lexicographic.{pointwise}
use Rattle.gq_plan.proofs.Products.{IsSized, each_sized, same_assignment, same_assignment_is}
use Rattle.gq_law_plans.specs.Bindings.{extends, is_rel_at, bound}
use Rattle.gq_law_plans.proofs.Numbering.{assignment_hits}
use Rattle.gq_law_trails.specs.Real.{is_real}
use Rattle.gq_law_plans.proofs.PlanCounts.{total_same_on}
use Rattle.gq_law_trails.specs.Met.{AreOrdered}
use Rattle.gq_law_trails.proofs.Walked.{trails_from_each}
use Rattle.gq_scopes.specs.Patterns.{Pattern}
use Rattle.gq_plan.specs.declared.TrailPart.{TrailPart}
use Rattle.gq_law_reaches.specs.Continued.{CoreContinued}
use Rattle.gq_law_reaches.specs.Core.{begin_of, core_part, core_pattern, numbered, patterns_of}
use Rattle.gq_law_reaches.specs.Reaches.{rels_in}

-- ---- items with their numbers

module _ {X : Type 0} where
  -- they are what a reader reads where they are the same items
  numbered_same : (test : Option X → X → Bool) (same : X → X → Bool) → ((y x : X) → test (Some y) x ≡ same y x) → (get : ℕ → Option X) (i : ℕ) (ys xs : List X) → length ys ≡ length xs
      → ((j : ℕ) → j < length ys → get (i + j) ≡ slice_get ys j) → list_all (λ (b : ℕ × X). test (get b.0) b.1) (numbered i xs) ≡ pointwise same ys xs
  numbered_same test same is get i [] [] e at = refl
  numbered_same test same is get i [] (x ∷ xs) e at = absurd (omega arith)
  numbered_same test same is get i (y ∷ ys) [] e at = absurd (omega arith)
  numbered_same test same is get i (y ∷ ys) (x ∷ xs) e at =
      let here : i ≡ i + 0 = omega arith in
      ap₂ ◌&&◌ (ap (λ o. test o x) (ap get here ∙ at 0 (omega arith)) ∙ is y x)
      (numbered_same test same is get (i + 1) ys xs (omega arith) (λ j low. let next : i + 1 + j ≡ i + suc j = omega arith in ap get next ∙ at (suc j) (omega arith)))

  pub numbered_items : (i : ℕ) (xs : List X) → map (λ (b : ℕ × X). b.1) (numbered i xs) ≡ xs
  numbered_items i [] = refl
  numbered_items i (x ∷ xs) = ap (λ l. x ∷ l) (numbered_items (i + 1) xs)

  pub numbered_bound : (i : ℕ) (xs : List X) (v : ℕ) → bound (numbered i xs) v ≡ list_any (λ w. nat_eq v w) (range_with_len i (length xs))
  numbered_bound i [] v = refl
  numbered_bound i (x ∷ xs) v = ap (λ b. nat_eq v i || b) (numbered_bound (i + 1) xs v)

  take_at : (k : ℕ) (xs : List X) (j : ℕ) → j < length (take k xs) → slice_get xs j ≡ slice_get (take k xs) j
  take_at zero xs j low = absurd (omega arith)
  take_at (suc k) [] j low = absurd (omega arith)
  take_at (suc k) (x ∷ xs) zero low = refl
  take_at (suc k) (x ∷ xs) (suc j) low = take_at k xs j (omega arith)

  pub take_length : (k : ℕ) (xs : List X) → k ≤ length xs → length (take k xs) ≡ k
  take_length zero xs low = refl
  take_length (suc k) [] low = absurd (omega arith)
  take_length (suc k) (x ∷ xs) low = ap suc (take_length k xs (omega arith))

-- ---- the core

module _ (g : Graph) (k : ℕ) (p : Pattern) (t : Assignment) (few : k ≤ length p.names) (nodes : length t.nodes ≡ length p.names) (rels : length t.rels ≡ length p.rels) where
  abbrev q : Pattern
  q = core_pattern k p

  abbrev core : Assignment
  core = core_part k t

  core_nodes : length core.nodes ≡ length q.names
  core_nodes = let low : k ≤ length t.nodes = omega arith in take_length k t.nodes low ∙ sym (take_length k p.names few)

  abbrev Sized : Assignment → Type 0
  Sized c = IsSized g (length q.names) (length q.rels) c

  -- an assignment has what a match of the core binds exactly where its core is that match
  begins_so : (c : Assignment) → Sized c → extends (begin_of c) t ≡ same_assignment core c
  begins_so c sized =
      ap₂ ◌&&◌
      (numbered_same (λ o n. at_same o (Some n)) same_node (λ y x. refl) (slice_get t.nodes) 0 core.nodes c.nodes (core_nodes ∙ sym sized.node_count)
      (λ j low. ap (slice_get t.nodes) (zero-add j) ∙ take_at k t.nodes j low))
      (numbered_same is_rel_at same_rel (λ y x. refl) (slice_get t.rels) 0 t.rels c.rels (rels ∙ sym sized.rel_count) (λ j low. ap (slice_get t.rels) (zero-add j)))

  each_core : AllByRecursion Sized (pattern_matches g q)
  unfolding pattern_matches
  each_core =
      each_then (λ c. Sized c × (is_match g q c ≡ true)) Sized (λ c h. h.0) (pattern_matches g q)
      (each_kept Sized (is_match g q) (assignments (length q.names) (length q.rels) g) (each_sized (length q.names) (length q.rels) g))

  core_hits : hits (same_assignment core) (pattern_matches g q) ≡ bit (is_real g core && is_match g q core)
  unfolding pattern_matches
  core_hits =
      let all = assignments (length q.names) (length q.rels) g in
      total_filter (λ s. bit (same_assignment core s)) (is_match g q) all
      ∙ total_same _ _ (λ s. cond_and (same_assignment core s) (is_match g q s)) all
      ∙ hits_at (same_assignment core) (is_match g q) core (same_assignment_is core) all
      ∙ ap (λ n. cond (is_match g q core) n 0) (assignment_hits g (length q.names) (length q.rels) core core_nodes rels)
      ∙ cond_and (is_real g core) (is_match g q core)

  begins_once : hits (λ a. extends a t) (map begin_of (pattern_matches g q)) ≡ bit (is_real g core && is_match g q core)
  begins_once =
      total_map (λ a. bit (extends a t)) begin_of (pattern_matches g q)
      ∙ total_same_on Sized (λ c. bit (extends (begin_of c) t)) (λ c. bit (same_assignment core c)) (λ c sized. ap bit (begins_so c sized)) (pattern_matches g q) each_core
      ∙ core_hits

  -- ---- what trails are walked from

  module _ (parts : List TrailPart) (ordered : AreOrdered parts (λ v. nat_lt v k)) where
    bound_so : (c : Assignment) → Sized c → (v : ℕ) → bound (begin_of c).nodes v ≡ nat_lt v k
    bound_so c sized v =
        numbered_bound 0 c.nodes v ∙ range_any v 0 (length c.nodes) (omega arith)
        ∙ ap (nat_lt v) (zero-add (length c.nodes) ∙ sized.node_count ∙ take_length k p.names few)

    ordered_so : (c : Assignment) → Sized c → AreOrdered parts (bound (begin_of c).nodes)
    ordered_so c sized = subst (AreOrdered parts) (λ i v. sym (bound_so c sized v) i) ordered

    patterns_so : (c : Assignment) → Sized c → extends (begin_of c) t ≡ true → patterns_of p (begin_of c) ≡ (λ clause. rels_in clause p.rels t.rels)
    patterns_so c sized e =
        let is : c ≡ core = same_assignment_is core c (sym (begins_so c sized) ∙ e) in
        λ i clause. rels_in clause p.rels ((numbered_items 0 c.rels ∙ ap (λ (s : Assignment). s.rels) is) i)

    each_begin : AllByRecursion (λ a. AreOrdered parts (bound a.nodes) × (extends a t ≡ true → patterns_of p a ≡ (λ clause. rels_in clause p.rels t.rels))) (map begin_of (pattern_matches g q))
    each_begin = each_map Sized _ begin_of (λ c sized. (ordered_so c sized, patterns_so c sized)) (pattern_matches g q) each_core

pub core_continued : CoreContinued
core_continued g k p parts t ls few nodes rels ordered =
    trails_from_each g (patterns_of p) parts (map begin_of (pattern_matches g (core_pattern k p))) t ls (λ clause. rels_in clause p.rels t.rels)
    (is_real g (core_part k t) && is_match g (core_pattern k p) (core_part k t)) (each_begin g k p t few nodes rels parts ordered) (begins_once g k p t few nodes rels)
