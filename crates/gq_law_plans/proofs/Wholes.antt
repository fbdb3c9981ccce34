-- A plan that covers an alternative makes, as a bag, the assignments that the alternative allows.
use Rattle.std.proofs.Common.{◌≡◌, ℕ, ◌+◌, ◌<◌, ◌≤◌, Bool, true, false, ◌&&◌, cond, nat_eq, ltb, Option, Some, List, [], ◌∷◌, map, filter, length, slice_get, refl, sym, ap, ◌∙◌, subst, arith, zero-add, true≢false}
use Rattle.std.specs.List.{AllByRecursion, list_all}
use Rattle.std.proofs.lemmas.Bool.{eq-eqb, lt-ltb, and_from, or_left, or_right}
use Rattle.gq_base.specs.Plain.{Graph}
use Rattle.gq_base.specs.declared.NodeId.{NodeId}
use Rattle.gq_base.specs.declared.RelId.{RelId}
use Rattle.gq_plan.specs.Allowed.{at_same}
use Rattle.gq_plan.specs.Assignments.{Assignment, assignments}
use Rattle.gq_plan.specs.Conditions.{allows}
use Rattle.gq_plan.specs.Covers.{after, demands, placed}
use Rattle.gq_plan.specs.Known.{none}
use Rattle.gq_plan.specs.Law.{PlansMeanAllowed}
use Rattle.gq_plan.specs.Meaning.{Partial, nothing, look, mean, meaning, whole}
use Rattle.gq_plan.specs.declared.typed.Typed.{Typed}
use Rattle.gq_plan.proofs.Bags.{permutation_from_hits}
use Rattle.gq_plan.specs.Counts.{bit, hits}
use Rattle.gq_plan.proofs.Counts.{total_map, total_filter, total_same, hits_at, cond_and}
use Rattle.gq_plan.proofs.Each.{each_then, each_map, each_kept}
use Rattle.gq_plan.proofs.Products.{IsSized, each_sized, same_assignment, same_assignment_refl, same_assignment_is}
use Rattle.gq_law_plans.specs.Bindings.{extends, nodes_in, rels_in, is_rel_at, bound}
use Rattle.gq_law_plans.proofs.Counting.{met, known_by, node_look, rel_look}
use Rattle.gq_plan.proofs.Binding.{covers_nodes, covers_rels}
use Rattle.gq_law_plans.proofs.Covering.{placed_same}
use Rattle.gq_law_plans.proofs.Demanded.{demanded}
use Rattle.gq_law_plans.proofs.Lookups.{Found, lists_same, read, read_length, read_at}
use Rattle.gq_law_plans.proofs.Numbering.{is_real, assignment_hits}
use Rattle.gq_law_plans.proofs.Owning.{Owns, owns_nothing, owns_mean}
use Rattle.gq_plan.proofs.Permuted.{all_permuted}
use Rattle.gq_law_plans.proofs.PlanCounts.{count_mean, total_same_on}

pub bool_iff : (b c : Bool) → (b ≡ true → c ≡ true) → (c ≡ true → b ≡ true) → b ≡ c
bool_iff true c f h = sym (f refl)
bool_iff false true f h = h refl
bool_iff false false f h = refl

-- bindings of all numbers below n, read in a row, have each binding at its place
module _ {X : Type 0} (test : Option X → X → Bool) (test_self : (x : X) → test (Some x) x ≡ true) (bs : List (ℕ × X)) (n : ℕ) (all : (v : ℕ) → bound bs v ≡ ltb v n) where
  all_low : (v : ℕ) → 0 ≤ v → v < 0 + n → bound bs v ≡ true
  all_low v l h = all v ∙ lt-ltb v n (omega arith)

  whole_length : length (read bs 0 n) ≡ n
  whole_length = read_length bs 0 n all_low

  whole_at : (v : ℕ) → v < n → slice_get (read bs 0 n) v ≡ look bs v
  whole_at v low = read_at bs 0 n all_low v low ∙ ap (look bs) (zero-add v)

  whole_has : (ds : List (ℕ × X)) → Found ds bs → ((v : ℕ) → bound ds v ≡ true → v < n) → list_all (λ b. test (slice_get (read bs 0 n) b.0) b.1) ds ≡ true
  whole_has [] h low = refl
  whole_has (d ∷ ds) h low =
      and_from (test (slice_get (read bs 0 n) d.0) d.1) (list_all (λ b. test (slice_get (read bs 0 n) b.0) b.1) ds)
      (ap (λ o. test o d.1) (whole_at d.0 (low d.0 (or_left (nat_eq d.0 d.0) (bound ds d.0) (eq-eqb d.0 d.0 refl))) ∙ h.0) ∙ test_self d.1)
      (whole_has ds h.1 (λ v k. low v (or_right (nat_eq v d.0) (bound ds v) k)))

-- an assignment with as many nodes and relationships as an alternative
pub record Sized (y : Typed) (t : Assignment) : Type 0 where
  pub nodes : length t.nodes ≡ length y.nodes
  pub rels : length t.rels ≡ length y.rels

pub node_self : (n : NodeId) → at_same (Some n) (Some n) ≡ true
node_self n = and_from (nat_eq n.table n.table) (nat_eq n.row n.row) (eq-eqb _ _ refl) (eq-eqb _ _ refl)

pub rel_self : (r : RelId) → is_rel_at (Some r) r ≡ true
rel_self r = and_from (nat_eq r.table r.table) (nat_eq r.row r.row) (eq-eqb _ _ refl) (eq-eqb _ _ refl)

module _ (y : Typed) (e : Partial) (owns : Owns y e) (nodes : (v : ℕ) → bound e.nodes v ≡ ltb v (length y.nodes)) (rels : (x : ℕ) → bound e.rels x ≡ ltb x (length y.rels)) where
  whole_sized : Sized y (whole y e)
  whole_sized = record {
    nodes = whole_length (λ o n. at_same o (Some n)) node_self e.nodes (length y.nodes) nodes;
    rels = whole_length is_rel_at rel_self e.rels (length y.rels) rels;
  }

  -- an assignment extends all that a plan bound exactly where it is this, read whole
  whole_same : (t : Assignment) → Sized y t → same_assignment t (whole y e) ≡ extends e t
  whole_same t sized = bool_iff _ _ there back
    where
      there : same_assignment t (whole y e) ≡ true → extends e t ≡ true
      there h =
          subst (λ s. extends e s ≡ true) (same_assignment_is t (whole y e) h)
          (and_from (nodes_in (whole y e) e.nodes) (rels_in (whole y e) e.rels)
          (whole_has (λ o n. at_same o (Some n)) node_self e.nodes (length y.nodes) nodes e.nodes owns.nodes owns.nodes_low)
          (whole_has is_rel_at rel_self e.rels (length y.rels) rels e.rels owns.rels owns.rels_low))

      back : extends e t ≡ true → same_assignment t (whole y e) ≡ true
      back h =
          let many_nodes : length t.nodes ≡ length y.nodes = sized.nodes in
          let many_rels : length t.rels ≡ length y.rels = sized.rels in
          let same_nodes : t.nodes ≡ read e.nodes 0 (length y.nodes) = lists_same t.nodes (read e.nodes 0 (length y.nodes)) (many_nodes ∙ sym whole_sized.nodes)
          (λ i low. sym (node_look e t h i (nodes i ∙ lt-ltb i _ (omega arith))) ∙ sym (whole_at (λ o n. at_same o (Some n)) node_self e.nodes (length y.nodes) nodes i (omega arith))) in
          let same_rels : t.rels ≡ read e.rels 0 (length y.rels) = lists_same t.rels (read e.rels 0 (length y.rels)) (many_rels ∙ sym whole_sized.rels)
          (λ i low. sym (rel_look e t h i (rels i ∙ lt-ltb i _ (omega arith))) ∙ sym (whole_at is_rel_at rel_self e.rels (length y.rels) rels i (omega arith))) in
          let is : t ≡ whole y e = λ i. record { nodes = same_nodes i; rels = same_rels i } in
          subst (λ s. same_assignment t s ≡ true) is (same_assignment_refl t)

-- how often an assignment stands among those that an alternative allows
allowed_hits : (g : Graph) (y : Typed) (t : Assignment) → Sized y t → hits (same_assignment t) (filter (allows g y) (assignments (length y.nodes) (length y.rels) g)) ≡ bit (is_real g t && allows g y t)
allowed_hits g y t sized =
    let all = assignments (length y.nodes) (length y.rels) g in
    total_filter (λ s. bit (same_assignment t s)) (allows g y) all
    ∙ total_same _ _ (λ s. cond_and (same_assignment t s) (allows g y s)) all
    ∙ hits_at (same_assignment t) (allows g y) t (same_assignment_is t) all
    ∙ ap (λ n. cond (allows g y t) n 0) (assignment_hits g (length y.nodes) (length y.rels) t sized.nodes sized.rels)
    ∙ cond_and (is_real g t) (allows g y t)

-- the law
pub plans_mean : PlansMeanAllowed
unfolding meaning
plans_mean g y p real sound covers =
    permutation_from_hits same_assignment same_assignment_refl same_assignment_is (Sized y) (map (whole y) rows) (filter (allows g y) all)
    (each_map (λ e. Owns y e × (known_by e ≡ after p none)) (Sized y) (whole y) (λ e k. whole_sized y e k.0 (nodes e k.1) (rels e k.1)) rows made)
    (each_then (λ t. IsSized g (length y.nodes) (length y.rels) t × (allows g y t ≡ true)) (Sized y) (λ t h. record { nodes = h.0.node_count; rels = h.0.rel_count }) (filter (allows g y) all)
    (each_kept (IsSized g (length y.nodes) (length y.rels)) (allows g y) all (each_sized (length y.nodes) (length y.rels) g)))
    (λ t sized. counts t sized ∙ sym (allowed_hits g y t sized))
  where
    all : List Assignment
    all = assignments (length y.nodes) (length y.rels) g

    rows : List Partial
    rows = mean g y p nothing

    made : AllByRecursion (λ e. Owns y e × (known_by e ≡ after p none)) rows
    made = owns_mean g y p nothing (owns_nothing y) covers.fits

    nodes : (e : Partial) → known_by e ≡ after p none → (v : ℕ) → bound e.nodes v ≡ ltb v (length y.nodes)
    nodes e is v = ap (λ k. k.nodes v) is ∙ covers_nodes g.catalog y v p covers

    rels : (e : Partial) → known_by e ≡ after p none → (x : ℕ) → bound e.rels x ≡ ltb x (length y.rels)
    rels e is x = ap (λ k. k.rels x) is ∙ covers_rels g.catalog y x p covers

    counts : (t : Assignment) → Sized y t → hits (same_assignment t) (map (whole y) rows) ≡ bit (is_real g t && allows g y t)
    counts t sized =
        total_map (λ s. bit (same_assignment t s)) (whole y) rows
        ∙ total_same_on (λ e. Owns y e × (known_by e ≡ after p none)) _ (λ e. bit (extends e t)) (λ e k. ap bit (whole_same y e k.0 (nodes e k.1) (rels e k.1) t sized)) rows made
        ∙ count_mean g y real sound t p nothing (owns_nothing y) covers.fits
        ∙ ap bit
        (placed_same g.catalog y (met g y t) p none covers.fits (λ v h. absurd (true≢false (sym h)))
        ∙ all_permuted (met g y t) (placed p) (demands y) covers.once
        ∙ demanded g y t sized.nodes sized.rels)
