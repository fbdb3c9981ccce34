-- A plan that makes a part of an alternative has as many assignments as the part.
use Rattle.std.proofs.Common.{◌≡◌, ℕ, ◌<◌, Bool, true, false, not, ◌&&◌, ◌||◌, cond, nat_eq, Option, Some, None, List, [], ◌∷◌, map, filter, length, slice_get, IsTrue, refl, sym, ap, ap₂, ◌∙◌, arith, true≢false}
use Rattle.std.specs.List.{AllByRecursion, AllZip, range_with_len, list_all, list_any}
use Rattle.std.proofs.Math.Bool.{or-false, and_assoc}
use Rattle.std.proofs.lemmas.Bool.{and_parts}
use Rattle.std.proofs.lemmas.List.Sorted.{list_any-IsPermutation}
use Rattle.std.proofs.lemmas.Option.{slice_get_within}
use Rattle.gq_base.specs.Plain.{Graph}
use Rattle.gq_base.specs.Valid.{is_valid}
use Rattle.gq_base.specs.declared.RelId.{RelId}
use Rattle.gq_plan.specs.Allowed.{at_same, leads}
use Rattle.gq_plan.specs.Assignments.{Assignment, row_of, rels_of, is_rel}
use Rattle.gq_plan.specs.Conditions.{passes, differs, no_loop}
use Rattle.gq_plan.specs.Covers.{after, placed, pair_bound, test_bound, leaves_loops_out}
use Rattle.gq_plan.specs.Known.{none}
use Rattle.gq_plan.specs.Meaning.{Partial, nothing, look, row, nodes_for, rels_for, holds, mean}
use Rattle.gq_plan.specs.Parts.{Part, given_parts, greedy_parts, counts, joins_ends, meets, bindings, nodes_inside, rels_inside, part_choices, part_assignments, part_demands, ends_inside, IsSide, IsPiece}
use Rattle.gq_plan.specs.Soundness.{IsSound}
use Rattle.gq_plan.specs.Plans.{Plan}
use Rattle.gq_plan.specs.declared.demand.Demand.TheVariants.{InTable, Joins, Passes, Differs, IsNoLoop}
use Rattle.gq_plan.specs.declared.bound.NamedExpr.{NamedExpr}
use Rattle.gq_plan.specs.declared.typed.RelPair.{RelPair}
use Rattle.gq_plan.specs.declared.typed.Typed.{Typed}
use Rattle.gq_plan.specs.declared.typed.TypedRel.{TypedRel}
use Rattle.gq_plan.proofs.Binding.{is_table, is_joins, any_demand, plan_binds, plan_joins}
use Rattle.gq_plan.specs.Counts.{bit, hits}
use Rattle.gq_plan.proofs.Counts.{total_map, total_flat_map, total_filter, total_none, total_same, hits_const_and, hits_and_const, cond_and}
use Rattle.gq_plan.proofs.Each.{each_then, each_map, each_flat_map, each_kept, each_below}
use Rattle.gq_plan.proofs.Permuted.{all_permuted, all_kept, all_and, any_none}
use Rattle.gq_plan.proofs.Values.{values_agree}
use Rattle.gq_law_plans.specs.Sides.{SidesCountParts}
use Rattle.gq_law_plans.proofs.Choices.{bindings_made, bindings_hits, pass_in, pass_once, pass_below}
use Rattle.gq_law_plans.specs.Bindings.{extends, nodes_in, rels_in, is_rel_at, bound}
use Rattle.gq_law_plans.proofs.Counting.{cond_both, hits_nodes_of, hits_rels_of, joins, met, known_by, node_look, rel_look}
use Rattle.gq_law_plans.proofs.Covering.{placed_same}
use Rattle.gq_law_plans.proofs.Demanded.{all_demand, range_get}
use Rattle.gq_law_plans.proofs.Filled.{among, Binds, counted}
use Rattle.gq_plan.proofs.Pieces.{given_pieces, greedy_pieces, some_at, holds_some}
use Rattle.gq_law_plans.proofs.Lookups.{Found}
use Rattle.gq_law_plans.proofs.Owning.{Owns, owns_nothing, owns_mean}
use Rattle.gq_law_plans.proofs.PlanCounts.{count_mean, total_same_on}

-- ---- the plan

module _ (g : Graph) (y : Typed) (part : Part) (side : Plan) (real : IsTrue (is_valid g)) (sound : IsSound g.catalog y) (is : IsSide g.catalog y part side) where
  asked_nodes : (v : ℕ) → list_any (is_table v) (part_demands y part) ≡ among (nodes_inside y part) v
  unfolding part_demands
  asked_nodes v = any_demand g.catalog y v (is_table v) (nodes_inside y part) (rels_inside y part) _ _ _ ∙ simp (any_none, or-false)

  asked_rels : (v : ℕ) → list_any (is_joins v) (part_demands y part) ≡ among (rels_inside y part) v
  unfolding part_demands
  asked_rels v = any_demand g.catalog y v (is_joins v) (nodes_inside y part) (rels_inside y part) _ _ _ ∙ simp (any_none, or-false)

  side_binds : AllByRecursion (Binds y (nodes_inside y part) (rels_inside y part)) (mean g y side nothing)
  side_binds =
      each_then (λ e. Owns y e × (known_by e ≡ after side none)) (Binds y (nodes_inside y part) (rels_inside y part))
      (λ e h. record {
        owns = h.0;
        nodes = λ v. ap (λ k. k.nodes v) h.1 ∙ plan_binds g.catalog y v side none is.fits ∙ or-false (list_any (is_table v) (placed side)) ∙ list_any-IsPermutation (is_table v) (placed side) (part_demands y part) is.once ∙ asked_nodes v;
        rels = λ x. ap (λ k. k.rels x) h.1 ∙ plan_joins g.catalog y x side none ∙ or-false (list_any (is_joins x) (placed side)) ∙ list_any-IsPermutation (is_joins x) (placed side) (part_demands y part) is.once ∙ asked_rels x;
      })
      (mean g y side nothing) (owns_mean g y side nothing (owns_nothing y) is.fits)

  side_hits : (t : Assignment) → hits (λ e. extends e t) (mean g y side nothing) ≡ bit (list_all (met g y t) (part_demands y part))
  side_hits t =
      count_mean g y real sound t side nothing (owns_nothing y) is.fits
      ∙ ap bit (placed_same g.catalog y (met g y t) side none is.fits (λ v h. absurd (true≢false (sym h))) ∙ all_permuted (met g y t) (placed side) (part_demands y part) is.once)

-- ---- tests by number

all_on : {X : Type 0} (P : X → Type 0) (f h : X → Bool) → ((x : X) → P x → f x ≡ h x) → (xs : List X) → AllByRecursion P xs → list_all f xs ≡ list_all h xs
all_on P f h same [] all = refl
all_on P f h same (x ∷ xs) all = ap₂ ◌&&◌ (same x all.0) (all_on P f h same xs all.1)

picked : {X : Type 0} (p q : X → Bool) (xs : List X)
    → list_all (λ x. not (p x) || q x) xs ≡ list_all (λ i. holds q (slice_get xs i)) (filter (λ i. holds p (slice_get xs i)) (range_with_len 0 (length xs)))
picked p q xs =
    sym (range_get (λ x. not (p x) || q x) xs)
    ∙ all_on (λ k. k < length xs) (λ k. holds (λ x. not (p x) || q x) (slice_get xs k)) (λ k. not (holds p (slice_get xs k)) || holds q (slice_get xs k))
    (λ k low. let some = some_at xs k low in rw some.1 refl) (range_with_len 0 (length xs)) (each_below 0 (length xs) (length xs) (omega arith))
    ∙ sym (all_kept (λ i. holds p (slice_get xs i)) (λ i. holds q (slice_get xs i)) (range_with_len 0 (length xs)))

-- ---- the part

-- tables T, relationships R of their tables, conditions G of them, pairs D, tests C, joins J, loops L
arranged : (t r g d c j l : Bool) → (r && g) ≡ (j && l) → ((t && r) && (g && (d && c))) ≡ ((((t && j) && c) && d) && l)
arranged false r g d c j l e = refl
arranged true false g d c false l e = refl
arranged true false g d c true false e = grind arith
arranged true false g d c true true e = absurd (true≢false (sym e))
arranged true true false d c false l e = refl
arranged true true false d c true false e = grind arith
arranged true true false d c true true e = absurd (true≢false (sym e))
arranged true true true d c false l e = absurd (true≢false e)
arranged true true true d c true false e = absurd (true≢false e)
arranged true true true true true true true e = refl
arranged true true true true false true true e = refl
arranged true true true false true true true e = refl
arranged true true true false false true true e = refl

-- a relationship of a table
abbrev rel_in : Graph → ℕ → Option RelId → Bool
rel_in g table None = false
rel_in g table (Some q) = nat_eq q.table table && is_rel g q

module _ (g : Graph) (y : Typed) (part : Part) (piece : IsPiece y part) where
  abbrev ns : List ℕ
  ns = nodes_inside y part

  abbrev xs : List ℕ
  xs = rels_inside y part

  abbrev every : ℕ → List ℕ
  every n = range_with_len 0 n

  abbrev products : List Partial
  products = part_choices g y part

  products_bind : AllByRecursion (Binds y ns xs) products
  products_bind =
      each_flat_map (λ bs. Found bs bs × ((v : ℕ) → bound bs v ≡ among ns v)) (Binds y ns xs) (λ bs. map (λ cs. record { nodes = bs; rels = cs }) (bindings (rels_for g y) xs))
      (λ bs h. each_map (λ cs. Found cs cs × ((x : ℕ) → bound cs x ≡ among xs x)) (Binds y ns xs) (λ cs. record { nodes = bs; rels = cs })
      (λ cs k. record {
        owns = record {
          nodes = h.0;
          rels = k.0;
          nodes_low = λ v e. pass_below part.inside.nodes (length y.nodes) v (sym (h.1 v) ∙ e);
          rels_low = λ x e. pass_below part.inside.rels (length y.rels) x (sym (k.1 x) ∙ e);
        };
        nodes = h.1;
        rels = k.1;
      })
      (bindings (rels_for g y) xs) (bindings_made (rels_for g y) xs (pass_once part.inside.rels 0 (length y.rels))))
      (bindings (nodes_for g y) ns) (bindings_made (nodes_for g y) ns (pass_once part.inside.nodes 0 (length y.nodes)))

  part_binds : AllByRecursion (Binds y ns xs) (part_assignments g y part)
  unfolding part_assignments
  part_binds = each_then (λ e. Binds y ns xs e × (meets g y part (row e) ≡ true)) (Binds y ns xs) (λ e h. h.0) _ (each_kept (Binds y ns xs) (λ e. meets g y part (row e)) products products_bind)

  module _ (t : Assignment) where
    abbrev rel_stands : ℕ → Bool
    rel_stands x = holds (λ (k : TypedRel). rel_in g k.table (slice_get t.rels x)) (slice_get y.rels x)

    node_once : (v : ℕ) → hits (λ n. at_same (slice_get t.nodes v) (Some n)) (nodes_for g y v) ≡ bit (met g y t (InTable v))
    node_once v = go (slice_get y.nodes v) refl
      where
        go : (o : Option ℕ) → slice_get y.nodes v ≡ o → hits (λ n. at_same (slice_get t.nodes v) (Some n)) (nodes_for g y v) ≡ bit (met g y t (InTable v))
        go None e = rw e refl
        go (Some k) e = rw e (hits_nodes_of g k (slice_get t.nodes v))

    rel_once : (x : ℕ) → hits (is_rel_at (slice_get t.rels x)) (rels_for g y x) ≡ bit (rel_stands x)
    rel_once x = go (slice_get y.rels x) refl
      where
        one : (k : TypedRel) (o : Option RelId) → hits (is_rel_at o) (rels_of g k.table) ≡ bit (rel_in g k.table o)
        one k None = total_none _ (λ r. refl) (rels_of g k.table)
        one k (Some q) = hits_rels_of g k.table q

        go : (o : Option TypedRel) → slice_get y.rels x ≡ o → hits (is_rel_at (slice_get t.rels x)) (rels_for g y x) ≡ bit (rel_stands x)
        go None e = rw e refl
        go (Some k) e = rw e (one k (slice_get t.rels x))

    products_hits : hits (λ e. extends e t) products ≡ bit (list_all (λ v. met g y t (InTable v)) ns && list_all rel_stands xs)
    products_hits =
        let rest = bindings (rels_for g y) xs in
        total_flat_map (λ e. bit (extends e t)) (λ bs. map (λ cs. record { nodes = bs; rels = cs }) rest) (bindings (nodes_for g y) ns)
        ∙ total_same _ _
        (λ bs. total_map (λ e. bit (extends e t)) (λ cs. record { nodes = bs; rels = cs }) rest
        ∙ hits_const_and (nodes_in t bs) (rels_in t) rest
        ∙ ap (λ n. cond (nodes_in t bs) n 0) (bindings_hits (rels_for g y) (λ x r. is_rel_at (slice_get t.rels x) r) rel_stands rel_once xs)
        ∙ cond_both (nodes_in t bs) (list_all rel_stands xs)) (bindings (nodes_for g y) ns)
        ∙ hits_and_const (nodes_in t) (list_all rel_stands xs) (bindings (nodes_for g y) ns)
        ∙ ap (λ n. cond (list_all rel_stands xs) n 0) (bindings_hits (nodes_for g y) (λ v n. at_same (slice_get t.nodes v) (Some n)) (λ v. met g y t (InTable v)) node_once ns)
        ∙ cond_and (list_all (λ v. met g y t (InTable v)) ns) (list_all rel_stands xs)

    -- the conditions read alike on a partial assignment and on what extends it
    module _ (e : Partial) (binds : Binds y ns xs e) (more : extends e t ≡ true) where
      nodes_alike : (v : ℕ) → part.inside.nodes v ≡ true → look e.nodes v ≡ slice_get t.nodes v
      nodes_alike v h = node_look e t more v (binds.nodes v ∙ pass_in part.inside.nodes 0 (length y.nodes) v (omega arith) (let low = piece.nodes v h in omega arith) h)

      rels_alike : (x : ℕ) → part.inside.rels x ≡ true → look e.rels x ≡ slice_get t.rels x
      rels_alike x h =
          let k = holds_some (ends_inside part) (slice_get y.rels x) (piece.rels x h) in
          let low : x < length y.rels = slice_get_within y.rels x k.0 k.1 in
          rel_look e t more x (binds.rels x ∙ pass_in part.inside.rels 0 (length y.rels) x (omega arith) (omega arith) h)

      goes_alike : (k : TypedRel) (o : Option RelId) → look e.nodes k.source ≡ slice_get t.nodes k.source → look e.nodes k.target ≡ slice_get t.nodes k.target → joins_ends g (row e) o k ≡ joins_ends g (row_of t) o k
      goes_alike k None from to = refl
      goes_alike k (Some q) from to = rw (from, to) refl

      one_alike : (x : ℕ) → (b : Bool) → part.inside.rels x ≡ b → (not b || holds (joins_ends g (row e) (look e.rels x)) (slice_get y.rels x)) ≡ (not b || holds (joins_ends g (row_of t) (slice_get t.rels x)) (slice_get y.rels x))
      one_alike x false h = refl
      one_alike x true h = go (slice_get y.rels x) refl
        where
          go : (o : Option TypedRel) → slice_get y.rels x ≡ o → holds (joins_ends g (row e) (look e.rels x)) o ≡ holds (joins_ends g (row_of t) (slice_get t.rels x)) o
          go None is = refl
          go (Some k) is =
              let ends = and_parts (part.inside.nodes k.source) (part.inside.nodes k.target) (sym (ap (holds (ends_inside part)) is) ∙ piece.rels x h) in
              ap (λ o. joins_ends g (row e) o k) (rels_alike x h) ∙ goes_alike k (slice_get t.rels x) (nodes_alike k.source ends.0) (nodes_alike k.target ends.1)

      pair_alike : (p : RelPair) → (b : Bool) → pair_bound part.inside p ≡ b → (not b || differs (row e) p) ≡ (not b || differs (row_of t) p)
      pair_alike p false h = refl
      pair_alike p true h =
          let both = and_parts (part.inside.rels p.first) (part.inside.rels p.second) h in
          let first = rels_alike p.first both.0 in
          let second = rels_alike p.second both.1 in
          rw (first, second) refl

      test_alike : (n : NamedExpr) → (b : Bool) → counts part n ≡ b → (not b || passes g (row e) n) ≡ (not b || passes g (row_of t) n)
      test_alike n false h = refl
      test_alike n true h =
          let same = values_agree g (row e) (row_of t) part.inside nodes_alike rels_alike n.expr (and_parts (test_bound part.inside n) _ h).0 in
          rw same refl

      meets_alike : meets g y part (row e) ≡ meets g y part (row_of t)
      meets_alike =
          λ i. list_all (λ x. one_alike x (part.inside.rels x) refl i) (every (length y.rels))
          && (list_all (λ p. pair_alike p (pair_bound part.inside p) refl i) y.pairs && list_all (λ n. test_alike n (counts part n) refl i) y.tests)

    cut_bit : (a b c : Bool) → (b ≡ true → a ≡ c) → cond a (bit b) 0 ≡ bit (b && c)
    cut_bit a false c h = none a
      where
        none : (a : Bool) → cond a (bit false) 0 ≡ bit false
        none true = refl
        none false = refl
    cut_bit a true c h = ap (λ d. cond d 1 0) (h refl) ∙ one c
      where
        one : (c : Bool) → cond c 1 0 ≡ bit c
        one true = refl
        one false = refl

    -- joins and excluded loops, relationship by relationship
    rel_bits : (x : ℕ) → (rel_stands x && holds (joins_ends g (row_of t) (slice_get t.rels x)) (slice_get y.rels x)) ≡ (met g y t (Joins x) && (not (holds leaves_loops_out (slice_get y.rels x)) || met g y t (IsNoLoop x)))
    rel_bits x = go (slice_get y.rels x) (slice_get t.rels x)
      where
        go : (o : Option TypedRel) (q : Option RelId) → (holds (λ (k : TypedRel). rel_in g k.table q) o && holds (joins_ends g (row_of t) q) o)
            ≡ (holds (λ k. joins g k (slice_get t.nodes k.source) (slice_get t.nodes k.target) q) o && (not (holds leaves_loops_out o) || holds (no_loop (row_of t)) o))
        go None q = refl
        go (Some k) None = refl
        go (Some k) (Some q) = sym (and_assoc (nat_eq q.table k.table && is_rel g q) (leads g (slice_get t.nodes k.source) (slice_get t.nodes k.target) q) (not k.no_loop || no_loop (row_of t) k))

    abbrev left_out : List ℕ
    left_out = filter (λ x. part.inside.rels x && holds leaves_loops_out (slice_get y.rels x)) (every (length y.rels))

    loops : list_all (λ x. not (holds leaves_loops_out (slice_get y.rels x)) || met g y t (IsNoLoop x)) xs ≡ list_all (λ x. met g y t (IsNoLoop x)) left_out
    loops =
        all_kept part.inside.rels (λ x. not (holds leaves_loops_out (slice_get y.rels x)) || met g y t (IsNoLoop x)) (every (length y.rels))
        ∙ (λ i. list_all (λ x. go (part.inside.rels x) (holds leaves_loops_out (slice_get y.rels x)) (met g y t (IsNoLoop x)) i) (every (length y.rels)))
        ∙ sym (all_kept (λ x. part.inside.rels x && holds leaves_loops_out (slice_get y.rels x)) (λ x. met g y t (IsNoLoop x)) (every (length y.rels)))
      where
        go : (a b c : Bool) → (not a || (not b || c)) ≡ (not (a && b) || c)
        go true b c = refl
        go false b c = refl

    joined : (list_all rel_stands xs && list_all (λ x. not (part.inside.rels x) || holds (joins_ends g (row_of t) (slice_get t.rels x)) (slice_get y.rels x)) (every (length y.rels)))
        ≡ (list_all (λ x. met g y t (Joins x)) xs && list_all (λ x. met g y t (IsNoLoop x)) left_out)
    joined =
        ap (λ b. list_all rel_stands xs && b) (sym (all_kept part.inside.rels (λ x. holds (joins_ends g (row_of t) (slice_get t.rels x)) (slice_get y.rels x)) (every (length y.rels))))
        ∙ all_and rel_stands (λ x. holds (joins_ends g (row_of t) (slice_get t.rels x)) (slice_get y.rels x)) xs
        ∙ (λ i. list_all (λ x. rel_bits x i) xs)
        ∙ sym (all_and (λ x. met g y t (Joins x)) (λ x. not (holds leaves_loops_out (slice_get y.rels x)) || met g y t (IsNoLoop x)) xs)
        ∙ ap (λ b. list_all (λ x. met g y t (Joins x)) xs && b) loops

    abbrev tests : List ℕ
    tests = filter (λ i. holds (counts part) (slice_get y.tests i)) (every (length y.tests))

    abbrev pairs : List ℕ
    pairs = filter (λ p. holds (pair_bound part.inside) (slice_get y.pairs p)) (every (length y.pairs))

    part_hits : hits (λ e. extends e t) (part_assignments g y part) ≡ bit (list_all (met g y t) (part_demands y part))
    unfolding part_assignments part_demands
    part_hits =
        total_filter (λ e. bit (extends e t)) (λ e. meets g y part (row e)) products
        ∙ total_same_on (Binds y ns xs) _ (λ e. bit (extends e t && meets g y part (row_of t)))
        (λ e binds. cut_bit (meets g y part (row e)) (extends e t) (meets g y part (row_of t)) (λ more. meets_alike e binds more)) products products_bind
        ∙ hits_and_const (λ e. extends e t) (meets g y part (row_of t)) products
        ∙ ap (λ n. cond (meets g y part (row_of t)) n 0) products_hits
        ∙ cond_and (list_all (λ v. met g y t (InTable v)) ns && list_all rel_stands xs) (meets g y part (row_of t))
        ∙ ap bit
        (ap₂ (λ d c. (list_all (λ v. met g y t (InTable v)) ns && list_all rel_stands xs) && (list_all (λ x. not (part.inside.rels x) || holds (joins_ends g (row_of t) (slice_get t.rels x)) (slice_get y.rels x)) (every (length y.rels)) && (d && c)))
        (picked (pair_bound part.inside) (differs (row_of t)) y.pairs) (picked (counts part) (passes g (row_of t)) y.tests)
        ∙ arranged (list_all (λ v. met g y t (InTable v)) ns) (list_all rel_stands xs)
        (list_all (λ x. not (part.inside.rels x) || holds (joins_ends g (row_of t) (slice_get t.rels x)) (slice_get y.rels x)) (every (length y.rels)))
        (list_all (λ p. met g y t (Differs p)) pairs) (list_all (λ i. met g y t (Passes i)) tests) (list_all (λ x. met g y t (Joins x)) xs) (list_all (λ x. met g y t (IsNoLoop x)) left_out) joined
        ∙ sym (all_demand (met g y t) ns xs tests pairs left_out))

-- the law
pub side_count : SidesCountParts
side_count g y part side real sound piece is =
    counted y (nodes_inside y part) (rels_inside y part) (mean g y side nothing) (part_assignments g y part)
    (side_binds g y part side real sound is) (part_binds g y part piece)
    (λ t fills. side_hits g y part side real sound is t ∙ sym (part_hits g y part piece t))

-- so the side plans of all parts have as many assignments as the parts, one by one
module _ (g : Graph) (y : Typed) (real : IsTrue (is_valid g)) (sound : IsSound g.catalog y) where
  counts_same : (parts : List Part) (plans : List Plan) → AllByRecursion (IsPiece y) parts → AllZip (IsSide g.catalog y) parts plans
      → map (λ s. length (mean g y s nothing)) plans ≡ map (λ p. length (part_assignments g y p)) parts
  counts_same [] [] all are = refl
  counts_same [] (s ∷ plans) all are = absurd are
  counts_same (p ∷ parts) [] all are = absurd are
  counts_same (p ∷ parts) (s ∷ plans) all are = ap₂ ◌∷◌ (side_count g y p s real sound all.0 are.0) (counts_same parts plans all.1 are.1)

  pub given_counts : (plans : List Plan) → AllZip (IsSide g.catalog y) (given_parts y) plans
      → map (λ s. length (mean g y s nothing)) plans ≡ map (λ p. length (part_assignments g y p)) (given_parts y)
  given_counts plans are = counts_same (given_parts y) plans (given_pieces g.catalog y sound) are

  pub greedy_counts : (plans : List Plan) → AllZip (IsSide g.catalog y) (greedy_parts y) plans
      → map (λ s. length (mean g y s nothing)) plans ≡ map (λ p. length (part_assignments g y p)) (greedy_parts y)
  greedy_counts plans are = counts_same (greedy_parts y) plans (greedy_pieces g.catalog y sound) are
