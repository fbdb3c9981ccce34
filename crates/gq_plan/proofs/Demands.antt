-- How often a plan meets a demand, and that a plan which fits meets each demand once exactly where it covers.
use Rattle.std.proofs.Common.{◌≡◌, ◌∙◌, ap, ap₂, sym, refl, ℕ, ◌+◌, ◌<◌, Bool, true, false, not, ◌&&◌, cond, IsTrue, IsPermutation, Option, Some, None, List, [], ◌∷◌, ◌++◌, map, filter, length, slice_get, eqb, ltb, arith, zero-add, add_assoc, true≢false}
use Rattle.std.specs.List.{list_all, range_with_len, sum_by, AllByRecursion}
use Rattle.std.proofs.lemmas.Bool.{eqb-true, eq-eqb, lt-ltb, and_parts, and_from}
use Rattle.std.proofs.lemmas.List.Folds.{list_all-append, list_all-map}
use Rattle.std.proofs.lemmas.List.Sorted.{sum_by-IsPermutation}
use Rattle.std.proofs.lemmas.List.Sums.{sum_by-cons}
use Rattle.std.proofs.lemmas.Option.{slice_get_within}
use Rattle.gq_base.specs.Catalogs.{Tables}
use Rattle.gq_plan.proofs.Bags.{permutation_from_hits}
use Rattle.gq_plan.specs.Counts.{bit, total, hits}
use Rattle.gq_plan.proofs.Counts.{total_map, total_none, total_filter, total_same, hits_range, hits_and_const}
use Rattle.gq_plan.proofs.Each.{each_then, each_map, each_append, each_below, each_kept}
use Rattle.gq_plan.specs.Covers.{fits, fits_step, after_step, placed, placed_step, demands, is_key, leaves_loops_out, is_new, goes, test_bound, pair_bound, loop_bound, Covers}
use Rattle.gq_plan.specs.Known.{Known, none}
use Rattle.gq_plan.specs.Meaning.{holds}
use Rattle.gq_plan.specs.Plans.{Plan, Done, Then, Step, Scan, Extend, Close, Join, Keep, Differ, NoLoop, Single, Meet}
use Rattle.gq_plan.specs.steps.Times.{same_demand, one, times, is_once}
use Rattle.gq_plan.specs.declared.demand.Demand.{Demand}
use Rattle.gq_plan.specs.declared.demand.Demand.TheVariants.{InTable, Joins, Passes, Differs, IsNoLoop}
use Rattle.gq_plan.specs.declared.typed.Typed.{Typed}
use Rattle.gq_plan.specs.declared.typed.TypedRel.{TypedRel}

-- ---- one demand

pub same_is : (d e : Demand) → same_demand d e ≡ true → e ≡ d
same_is (InTable v) (InTable w) h = ap InTable (sym (eqb-true v w h))
same_is (Joins v) (Joins w) h = ap Joins (sym (eqb-true v w h))
same_is (Passes v) (Passes w) h = ap Passes (sym (eqb-true v w h))
same_is (Differs v) (Differs w) h = ap Differs (sym (eqb-true v w h))
same_is (IsNoLoop v) (IsNoLoop w) h = ap IsNoLoop (sym (eqb-true v w h))
same_is d e h = absurd (true≢false (sym h))

pub same_refl : (d : Demand) → same_demand d d ≡ true
same_refl (InTable v) = eq-eqb v v refl
same_refl (Joins v) = eq-eqb v v refl
same_refl (Passes v) = eq-eqb v v refl
same_refl (Differs v) = eq-eqb v v refl
same_refl (IsNoLoop v) = eq-eqb v v refl

pub one_bit : (b : Bool) → one b ≡ bit b
one_bit true = refl
one_bit false = refl

pub times_hits : (d : Demand) (es : List Demand) → times d es ≡ hits (same_demand d) es
times_hits d [] = refl
times_hits d (e ∷ es) = ap₂ ◌+◌ (one_bit (same_demand d e)) (times_hits d es)

pub times_append : (d : Demand) (es fs : List Demand) → times d (es ++ fs) ≡ times d es + times d fs
times_append d [] fs = sym (zero-add _)
times_append d (e ∷ es) fs = ap (λ n. one (same_demand d e) + n) (times_append d es fs) ∙ sym (add_assoc (one (same_demand d e)) (times d es) (times d fs))

-- ---- what a filter leaves out

module _ (q : Demand → Bool) (d : Demand) where
  pub left_out : (es : List Demand) → q d ≡ true → times d (filter (λ e. not (q e)) es) ≡ 0
  left_out [] h = refl
  left_out (e ∷ es) h = go (q e) (same_demand d e) refl refl (left_out es h)
    where
      go : (a b : Bool) → q e ≡ a → same_demand d e ≡ b → times d (filter (λ e. not (q e)) es) ≡ 0 → times d (cond (not a) (e ∷ filter (λ e. not (q e)) es) (filter (λ e. not (q e)) es)) ≡ 0
      go true b k s more = more
      go false true k s more = absurd (true≢false (sym h ∙ sym (ap q (same_is d e s)) ∙ k))
      go false false k s more = ap₂ (λ b n. one b + n) s more

  pub left_in : (es : List Demand) → q d ≡ false → times d (filter (λ e. not (q e)) es) ≡ times d es
  left_in [] h = refl
  left_in (e ∷ es) h = go (q e) (same_demand d e) refl refl (left_in es h)
    where
      go : (a b : Bool) → q e ≡ a → same_demand d e ≡ b → times d (filter (λ e. not (q e)) es) ≡ times d es → times d (cond (not a) (e ∷ filter (λ e. not (q e)) es) (filter (λ e. not (q e)) es)) ≡ one (same_demand d e) + times d es
      go true true k s more = absurd (true≢false (sym k ∙ ap q (same_is d e s) ∙ h))
      go true false k s more = more ∙ sym (zero-add _) ∙ ap (λ b. one b + times d es) (sym s)
      go false b k s more = ap (λ n. one (same_demand d e) + n) more

-- ---- the demands of an alternative

-- an alternative has what a demand names
abbrev pub is_demand : Typed → Demand → Bool
is_demand y (InTable v) = ltb v (length y.nodes)
is_demand y (Joins x) = ltb x (length y.rels)
is_demand y (Passes i) = ltb i (length y.tests)
is_demand y (Differs p) = ltb p (length y.pairs)
is_demand y (IsNoLoop x) = ltb x (length y.rels) && holds leaves_loops_out (slice_get y.rels x)

and_assoc : (a b c : Bool) → ((a && b) && c) ≡ (a && (b && c))
and_assoc true b c = refl
and_assoc false b c = refl

pub demands_once : (p : Plan) (y : Typed)
    → list_all (is_once p) (demands y)
    ≡ (((list_all (λ v. is_once p (InTable v)) (range_with_len 0 (length y.nodes))
    && list_all (λ x. is_once p (Joins x)) (range_with_len 0 (length y.rels)))
    && (list_all (λ i. is_once p (Passes i)) (range_with_len 0 (length y.tests))
    && list_all (λ q. is_once p (Differs q)) (range_with_len 0 (length y.pairs))))
    && list_all (λ x. is_once p (IsNoLoop x)) (filter (λ x. holds leaves_loops_out (slice_get y.rels x)) (range_with_len 0 (length y.rels))))
unfolding demands
demands_once p y = simp (list_all-append, list_all-map, and_assoc)

-- ---- the demands of an alternative, each once

pub times_map : (d : Demand) (f : ℕ → Demand) (ns : List ℕ) → times d (map f ns) ≡ hits (λ k. same_demand d (f k)) ns
times_map d f ns = times_hits d (map f ns) ∙ total_map (λ e. bit (same_demand d e)) f ns

-- a demand of another kind is none of these
pub others : (ns : List ℕ) → hits (λ k. false) ns ≡ 0
others ns = total_none (λ k. bit false) (λ k. refl) ns

pub below : (n m : ℕ) → hits (λ k. eqb n k) (range_with_len 0 m) ≡ one (ltb n m)
below n m = hits_range n 0 m (omega arith) ∙ ap (λ k. bit (ltb n k)) (zero-add m) ∙ sym (one_bit (ltb n m))

-- those of a kind that a test keeps
pub kept_below : (q : ℕ → Bool) (n m : ℕ) → hits (λ k. eqb n k) (filter q (range_with_len 0 m)) ≡ one (ltb n m && q n)
kept_below q n m =
    total_filter (λ k. bit (eqb n k)) q (range_with_len 0 m)
    ∙ total_same _ _ (λ k. at (q k) (eqb n k) ∙ same k (eqb n k) refl) (range_with_len 0 m)
    ∙ hits_and_const (λ k. eqb n k) (q n) (range_with_len 0 m)
    ∙ ap (λ z. cond (q n) z 0) (below n m) ∙ last (q n) (ltb n m)
  where
    at : (a b : Bool) → cond a (bit b) 0 ≡ bit (b && a)
    at true true = refl
    at true false = refl
    at false true = refl
    at false false = refl

    same : (k : ℕ) (b : Bool) → eqb n k ≡ b → bit (b && q k) ≡ bit (b && q n)
    same k true e = ap (λ z. bit (q z)) (sym (eqb-true n k e))
    same k false e = refl

    last : (a b : Bool) → cond a (one b) 0 ≡ one (b && a)
    last true true = refl
    last true false = refl
    last false true = refl
    last false false = refl

abbrev no_loops : Typed → List ℕ
no_loops y = filter (λ x. holds leaves_loops_out (slice_get y.rels x)) (range_with_len 0 (length y.rels))

times_demands : (d : Demand) (y : Typed) → times d (demands y)
    ≡ (((times d (map InTable (range_with_len 0 (length y.nodes))) + times d (map Joins (range_with_len 0 (length y.rels))))
    + times d (map Passes (range_with_len 0 (length y.tests)))) + times d (map Differs (range_with_len 0 (length y.pairs))))
    + times d (map IsNoLoop (no_loops y))
unfolding demands
times_demands d y = simp times_append

-- a demand stands once or not at all
demand_times : (y : Typed) (d : Demand) → times d (demands y) ≡ one (is_demand y d)
demand_times y (InTable v) =
    let a = times_map (InTable v) InTable (range_with_len 0 (length y.nodes)) ∙ below v (length y.nodes) in
    let b = times_map (InTable v) Joins (range_with_len 0 (length y.rels)) ∙ others (range_with_len 0 (length y.rels)) in
    let c = times_map (InTable v) Passes (range_with_len 0 (length y.tests)) ∙ others (range_with_len 0 (length y.tests)) in
    let d = times_map (InTable v) Differs (range_with_len 0 (length y.pairs)) ∙ others (range_with_len 0 (length y.pairs)) in
    let e = times_map (InTable v) IsNoLoop (no_loops y) ∙ others (no_loops y) in
    times_demands (InTable v) y ∙ omega arith
demand_times y (Joins v) =
    let a = times_map (Joins v) InTable (range_with_len 0 (length y.nodes)) ∙ others (range_with_len 0 (length y.nodes)) in
    let b = times_map (Joins v) Joins (range_with_len 0 (length y.rels)) ∙ below v (length y.rels) in
    let c = times_map (Joins v) Passes (range_with_len 0 (length y.tests)) ∙ others (range_with_len 0 (length y.tests)) in
    let d = times_map (Joins v) Differs (range_with_len 0 (length y.pairs)) ∙ others (range_with_len 0 (length y.pairs)) in
    let e = times_map (Joins v) IsNoLoop (no_loops y) ∙ others (no_loops y) in
    times_demands (Joins v) y ∙ omega arith
demand_times y (Passes v) =
    let a = times_map (Passes v) InTable (range_with_len 0 (length y.nodes)) ∙ others (range_with_len 0 (length y.nodes)) in
    let b = times_map (Passes v) Joins (range_with_len 0 (length y.rels)) ∙ others (range_with_len 0 (length y.rels)) in
    let c = times_map (Passes v) Passes (range_with_len 0 (length y.tests)) ∙ below v (length y.tests) in
    let d = times_map (Passes v) Differs (range_with_len 0 (length y.pairs)) ∙ others (range_with_len 0 (length y.pairs)) in
    let e = times_map (Passes v) IsNoLoop (no_loops y) ∙ others (no_loops y) in
    times_demands (Passes v) y ∙ omega arith
demand_times y (Differs v) =
    let a = times_map (Differs v) InTable (range_with_len 0 (length y.nodes)) ∙ others (range_with_len 0 (length y.nodes)) in
    let b = times_map (Differs v) Joins (range_with_len 0 (length y.rels)) ∙ others (range_with_len 0 (length y.rels)) in
    let c = times_map (Differs v) Passes (range_with_len 0 (length y.tests)) ∙ others (range_with_len 0 (length y.tests)) in
    let d = times_map (Differs v) Differs (range_with_len 0 (length y.pairs)) ∙ below v (length y.pairs) in
    let e = times_map (Differs v) IsNoLoop (no_loops y) ∙ others (no_loops y) in
    times_demands (Differs v) y ∙ omega arith
demand_times y (IsNoLoop v) =
    let a = times_map (IsNoLoop v) InTable (range_with_len 0 (length y.nodes)) ∙ others (range_with_len 0 (length y.nodes)) in
    let b = times_map (IsNoLoop v) Joins (range_with_len 0 (length y.rels)) ∙ others (range_with_len 0 (length y.rels)) in
    let c = times_map (IsNoLoop v) Passes (range_with_len 0 (length y.tests)) ∙ others (range_with_len 0 (length y.tests)) in
    let d = times_map (IsNoLoop v) Differs (range_with_len 0 (length y.pairs)) ∙ others (range_with_len 0 (length y.pairs)) in
    let e = times_map (IsNoLoop v) IsNoLoop (no_loops y) ∙ kept_below (λ x. holds leaves_loops_out (slice_get y.rels x)) v (length y.rels) in
    times_demands (IsNoLoop v) y ∙ omega arith

-- ---- what a plan that fits meets

pub holds_within : {X : Type 0} (test : X → Bool) (xs : List X) (i : ℕ) → holds test (slice_get xs i) ≡ true → ltb i (length xs) ≡ true
holds_within {X} test xs i h = go (slice_get xs i) refl h
  where
    go : (found : Option X) → slice_get xs i ≡ found → holds test found ≡ true → ltb i (length xs) ≡ true
    go None e k = absurd (true≢false (sym k))
    go (Some x) e k = lt-ltb i (length xs) (slice_get_within xs i x e)

abbrev pub IsNamed : Typed → Demand → Type 0
IsNamed y d = is_demand y d ≡ true

loop_is : (k : Known) (x : ℕ) (found : Option TypedRel) → holds (loop_bound k x) found ≡ true → holds leaves_loops_out found ≡ true
loop_is k x None h = h
loop_is k x (Some r) h = (and_parts r.no_loop (k.rels x && (k.nodes r.source && k.nodes r.target)) h).0

mutual
  unfolding fits placed

  placed_named : (catalog : Tables) (y : Typed) (p : Plan) (k : Known) → fits catalog y p k ≡ true → AllByRecursion (IsNamed y) (placed p)
  placed_named catalog y Done k h = tt
  placed_named catalog y (Then s p) k h =
      let parts = and_parts (fits_step catalog y s k) (fits catalog y p (after_step s k)) h in
      each_append (IsNamed y) (placed_step s) (placed p) (step_named catalog y s k parts.0) (placed_named catalog y p (after_step s k) parts.1)

  step_named : (catalog : Tables) (y : Typed) (s : Step) (k : Known) → fits_step catalog y s k ≡ true → AllByRecursion (IsNamed y) (placed_step s)
  step_named catalog y (Scan v) k h = ((and_parts (ltb v (length y.nodes)) (not (k.nodes v)) h).0, tt)
  step_named catalog y (Extend column x from to way) k h =
      let there = and_parts (holds (goes catalog column from to way) (slice_get y.rels x)) (not (k.rels x) && (k.nodes from && is_new y k to)) h in
      let fresh = and_parts (not (k.rels x)) (k.nodes from && is_new y k to) there.1 in
      let ends = and_parts (k.nodes from) (is_new y k to) fresh.1 in
      (holds_within (goes catalog column from to way) y.rels x there.0, ((and_parts (ltb to (length y.nodes)) (not (k.nodes to)) ends.1).0, tt))
  step_named catalog y (Close column x from to way) k h =
      let there = and_parts (holds (goes catalog column from to way) (slice_get y.rels x)) (not (k.rels x) && (k.nodes from && k.nodes to)) h in
      (holds_within (goes catalog column from to way) y.rels x there.0, tt)
  step_named catalog y (Join side keys) k h =
      let own = and_parts (fits catalog y side none) _ h in
      each_then (λ d. IsNamed y d × (not (is_key keys d) ≡ true)) (IsNamed y) (λ d e. e.0) _ (each_kept (IsNamed y) (λ d. not (is_key keys d)) (placed side) (placed_named catalog y side none own.0))
  step_named catalog y (Keep i) k h = (holds_within (test_bound k) y.tests i h, tt)
  step_named catalog y (Differ p) k h = (holds_within (pair_bound k) y.pairs p h, tt)
  step_named catalog y (NoLoop x) k h = (and_from _ _ (holds_within (loop_bound k x) y.rels x h) (loop_is k x (slice_get y.rels x) h), tt)
  step_named catalog y (Single x from to way) k h = absurd (true≢false (sym h))
  step_named catalog y (Meet x from to way) k h = tt

-- ---- what is covered

pub all_named : (y : Typed) → AllByRecursion (IsNamed y) (demands y)
unfolding demands
all_named y =
    each_append (IsNamed y) _ (map IsNoLoop (no_loops y))
    (each_append (IsNamed y) _ (map Differs (range_with_len 0 (length y.pairs)))
    (each_append (IsNamed y) _ (map Passes (range_with_len 0 (length y.tests)))
    (each_append (IsNamed y) (map InTable (range_with_len 0 (length y.nodes))) (map Joins (range_with_len 0 (length y.rels)))
    (each_map (λ k. k < length y.nodes) (IsNamed y) InTable (λ k h. lt-ltb k (length y.nodes) h) _ (each_below 0 (length y.nodes) (length y.nodes) (omega arith)))
    (each_map (λ k. k < length y.rels) (IsNamed y) Joins (λ k h. lt-ltb k (length y.rels) h) _ (each_below 0 (length y.rels) (length y.rels) (omega arith))))
    (each_map (λ k. k < length y.tests) (IsNamed y) Passes (λ k h. lt-ltb k (length y.tests) h) _ (each_below 0 (length y.tests) (length y.tests) (omega arith))))
    (each_map (λ k. k < length y.pairs) (IsNamed y) Differs (λ k h. lt-ltb k (length y.pairs) h) _ (each_below 0 (length y.pairs) (length y.pairs) (omega arith))))
    (each_map (λ k. (k < length y.rels) × (holds leaves_loops_out (slice_get y.rels k) ≡ true)) (IsNamed y) IsNoLoop
    (λ k h. and_from (ltb k (length y.rels)) (holds leaves_loops_out (slice_get y.rels k)) (lt-ltb k (length y.rels) h.0) h.1) _
    (each_kept (λ k. k < length y.rels) (λ k. holds leaves_loops_out (slice_get y.rels k)) _ (each_below 0 (length y.rels) (length y.rels) (omega arith))))

-- what holds of all holds of each that stands there
picked : (test : Demand → Bool) (d : Demand) (es : List Demand) → times d es ≡ 1 → list_all test es ≡ true → test d ≡ true
picked test d [] h k = absurd (omega arith)
picked test d (e ∷ es) h k =
    let parts = and_parts (test e) (list_all test es) k in
    go (same_demand d e) refl h parts.0 (λ m. picked test d es m parts.1)
  where
    go : (b : Bool) → same_demand d e ≡ b → one b + times d es ≡ 1 → test e ≡ true → (times d es ≡ 1 → test d ≡ true) → test d ≡ true
    go true s n this more = ap test (sym (same_is d e s)) ∙ this
    go false s n this more = more (sym (zero-add _) ∙ n)

named_once : (y : Typed) (d : Demand) → IsNamed y d → times d (demands y) ≡ 1
named_once y d h = demand_times y d ∙ ap one h

pub covers_each : (catalog : Tables) (y : Typed) (p : Plan) → fits catalog y p none ≡ true → ((d : Demand) → IsNamed y d → times d (placed p) ≡ 1) → Covers catalog y p
covers_each catalog y p h each = record {
  fits = h;
  once =
      permutation_from_hits same_demand same_refl same_is (IsNamed y) (placed p) (demands y) (placed_named catalog y p none h) (all_named y)
      (λ d named. sym (times_hits d (placed p)) ∙ each d named ∙ sym (named_once y d named) ∙ times_hits d (demands y));
}

pub covers_if : (catalog : Tables) (y : Typed) (p : Plan) → IsTrue (fits catalog y p none) → IsTrue (list_all (is_once p) (demands y)) → Covers catalog y p
covers_if catalog y p h all = covers_each catalog y p h (λ d named. eqb-true (times d (placed p)) 1 (picked (is_once p) d (demands y) (named_once y d named) all))

pub total_sum : {X : Type 0} (f : X → ℕ) (xs : List X) → total f xs ≡ sum_by f xs
total_sum f [] = refl
total_sum f (x ∷ xs) = ap (λ n. f x + n) (total_sum f xs) ∙ sym (sum_by-cons f x xs)

all_once : (p : Plan) (y : Typed) → IsPermutation (placed p) (demands y) → (es : List Demand) → AllByRecursion (IsNamed y) es → list_all (is_once p) es ≡ true
all_once p y h [] named = refl
all_once p y h (d ∷ es) named =
    and_from (is_once p d) (list_all (is_once p) es)
    (eq-eqb (times d (placed p)) 1
    (times_hits d (placed p) ∙ total_sum (λ e. bit (same_demand d e)) (placed p) ∙ sym (sum_by-IsPermutation (λ e. bit (same_demand d e)) (placed p) (demands y) h)
    ∙ sym (total_sum (λ e. bit (same_demand d e)) (demands y)) ∙ sym (times_hits d (demands y)) ∙ named_once y d named.0))
    (all_once p y h es named.1)

pub covers_only_if : (catalog : Tables) (y : Typed) (p : Plan) → Covers catalog y p → IsTrue (list_all (is_once p) (demands y))
covers_only_if catalog y p h = all_once p y h.once (demands y) (all_named y)
