-- How many columns a plan that fits a sound alternative fills at most.
use Rattle.std.proofs.Common.{◌≡◌, ◌∙◌, ◌<◌, ◌≤◌, ◌+◌, ap, sym, refl, ℕ, zero, suc, Bool, true, false, not, cond, ◌&&◌, ◌||◌, List, [], ◌∷◌, ◌++◌, filter, flat_map, length, slice_get, subst, nat_eq, arith, true≢false}
use Rattle.std.specs.Prelude.{sum_by}
use Rattle.std.specs.List.{range_with_len, list_all}
use Rattle.std.proofs.lemmas.Bool.{and_parts, eqb-true, eqb-false, not-true}
use Rattle.std.proofs.lemmas.List.Elements.{filter-append}
use Rattle.std.proofs.lemmas.List.FromFn.{length-range_with_len}
use Rattle.std.proofs.lemmas.List.Sums.{sum_by-cons, count_by-le-length, length-filter}
use Rattle.std.proofs.lemmas.Option.{slice_get_within}
use Rattle.gq_base.specs.Catalogs.{Tables}
use Rattle.gq_base.specs.declared.direction.Direction.{Direction}
use Rattle.gq_plan.proofs.DifferentReads.{AllAmong, is_among, all_left, all_right, all_self, distinct_fewer}
use Rattle.gq_plan.proofs.Each.{each_append}
use Rattle.gq_plan.proofs.Pieces.{holds_some}
use Rattle.gq_plan.proofs.ReadLemmas.{distinct_taken}
use Rattle.gq_plan.specs.Columns.{binds, step_binds, brought, own_columns, step_reads, test_properties, steps_of, columns_of, max_columns}
use Rattle.gq_plan.specs.Covers.{after, after_step, fits, fits_step, goes, is_joined}
use Rattle.gq_plan.specs.Known.{Known, none}
use Rattle.gq_plan.specs.Meaning.{holds}
use Rattle.gq_plan.specs.Plans.{Plan, Done, Then, Step, Scan, Extend, Close, Join, Keep, Differ, NoLoop, Single, Meet}
use Rattle.gq_plan.specs.Reads.{Read, reads, is_property, properties, properties_of, with_reads}
use Rattle.gq_plan.specs.Soundness.{has_number, max_reads, test_reads, IsSound}
use Rattle.gq_plan.specs.declared.bound.NamedExpr.{NamedExpr}
use Rattle.gq_plan.specs.declared.typed.Typed.{Typed}

-- ---- numbers that some have

abbrev count : (ℕ → Bool) → List ℕ → ℕ
count p ns = length (filter p ns)

filter_within : (p : ℕ → Bool) (ns : List ℕ) → count p ns ≤ length ns
filter_within p ns = omega (arith, length-filter p ns, count_by-le-length p ns)

module _ (s k : ℕ → Bool) where
  abbrev either : ℕ → Bool
  either n = s n || k n

  more : (ns : List ℕ) → count k ns ≤ count either ns
  more [] = omega arith
  more (n ∷ ns) = go (s n) (k n) (more ns)
    where
      go : (a b : Bool) → count k ns ≤ count either ns → length (cond b (n ∷ filter k ns) (filter k ns)) ≤ length (cond (a || b) (n ∷ filter either ns) (filter either ns))
      go true true h = omega arith
      go true false h = omega arith
      go false true h = omega arith
      go false false h = h

  -- those that one has and that are left in, beside those that the other has, where only what is left out is common to both
  module _ (out : ℕ → Bool) where
    abbrev own : ℕ → Bool
    own n = s n && not (out n)

    both : (ns : List ℕ) → list_all (λ n. not (s n && k n) || out n) ns ≡ true → count own ns + count k ns ≤ count either ns
    both [] h = omega arith
    both (n ∷ ns) h =
        let parts = and_parts (not (s n && k n) || out n) (list_all (λ n. not (s n && k n) || out n) ns) h in
        go (s n) (k n) (out n) parts.0 (both ns parts.1)
      where
        go : (a b o : Bool) → (not (a && b) || o) ≡ true → count own ns + count k ns ≤ count either ns
            → length (cond (a && not o) (n ∷ filter own ns) (filter own ns)) + length (cond b (n ∷ filter k ns) (filter k ns))
            ≤ length (cond (a || b) (n ∷ filter either ns) (filter either ns))
        go true true true e h = omega arith
        go true true false e h = absurd (true≢false (sym e))
        go true false true e h = omega arith
        go true false false e h = omega arith
        go false true o e h = omega arith
        go false false o e h = h

-- a number that had not been there is one more
module _ (x : ℕ) (k : ℕ → Bool) (new : k x ≡ false) where
  abbrev with : ℕ → Bool
  with w = nat_eq w x || k w

  one_more : (a n : ℕ) → a ≤ x → x < a + n → 1 + count k (range_with_len a n) ≤ count with (range_with_len a n)
  one_more a zero h l = absurd (omega arith)
  one_more a (suc n) h l = go (nat_eq a x) (k a) (one_more (a + 1) n) refl refl
    where
      go : (b c : Bool) → (a + 1 ≤ x → x < (a + 1) + n → 1 + count k (range_with_len (a + 1) n) ≤ count with (range_with_len (a + 1) n)) → nat_eq a x ≡ b → k a ≡ c
          → 1 + length (cond c (a ∷ filter k (range_with_len (a + 1) n)) (filter k (range_with_len (a + 1) n)))
          ≤ length (cond (b || c) (a ∷ filter with (range_with_len (a + 1) n)) (filter with (range_with_len (a + 1) n)))
      go true true m e f = absurd (true≢false (sym f ∙ ap k (eqb-true a x e) ∙ new))
      go true false m e f = let l = more (λ w. nat_eq w x) k (range_with_len (a + 1) n) in omega arith
      go false true m e f =
          let apart = eqb-false a x e in
          let l = m (omega arith) (omega arith) in
          omega arith
      go false false m e f =
          let apart = eqb-false a x e in
          m (omega arith) (omega arith)

-- ---- what a side plan binds

pub eqb_sym : (m n : ℕ) → nat_eq m n ≡ nat_eq n m
eqb_sym m n = go (nat_eq m n) (nat_eq n m) refl refl
  where
    go : (a b : Bool) → nat_eq m n ≡ a → nat_eq n m ≡ b → a ≡ b
    go true true e f = refl
    go true false e f = absurd (eqb-false n m f (sym (eqb-true m n e)))
    go false true e f = absurd (eqb-false m n e (sym (eqb-true n m f)))
    go false false e f = refl

or_none : (b : Bool) → (b || false) ≡ b
or_none true = refl
or_none false = refl

mutual
  unfolding after after_step binds step_binds

  pub binds_is : (v : ℕ) (p : Plan) (k : Known) → (after p k).nodes v ≡ (binds v p || k.nodes v)
  binds_is v Done k = refl
  binds_is v (Then s p) k = binds_is v p (after_step s k) ∙ ap (λ b. binds v p || b) (step_binds_is v s k) ∙ swap (step_binds v s) (binds v p) (k.nodes v)
    where
      swap : (a b c : Bool) → (b || (a || c)) ≡ (cond a true b || c)
      swap true true c = refl
      swap true false c = refl
      swap false b c = refl

  pub step_binds_is : (v : ℕ) (s : Step) (k : Known) → (after_step s k).nodes v ≡ (step_binds v s || k.nodes v)
  step_binds_is v (Scan n) k = ap (λ b. b || k.nodes v) (eqb_sym v n)
  step_binds_is v (Extend column x from to way) k = ap (λ b. b || k.nodes v) (eqb_sym v to)
  step_binds_is v (Close column x from to way) k = refl
  step_binds_is v (Join side keys) k = ap (λ b. b || k.nodes v) (binds_is v side none ∙ or_none (binds v side))
  step_binds_is v (Keep i) k = refl
  step_binds_is v (Differ q) k = refl
  step_binds_is v (NoLoop x) k = refl
  step_binds_is v (Single x from to way) k = refl
  step_binds_is v (Meet x from to way) k = refl

-- ---- the columns that steps fill, the reads of their tests apart

module _ (catalog : Tables) (y : Typed) where
  abbrev nodes_in : Known → ℕ
  nodes_in k = count k.nodes (range_with_len 0 (length y.nodes))

  abbrev rels_in : Known → ℕ
  rels_in k = count k.rels (range_with_len 0 (length y.rels))

  new_rel : (column : Bool) (x from to : ℕ) (way : Direction) (k : Known) (rest : Bool)
      → (holds (goes catalog column from to way) (slice_get y.rels x) && (not (k.rels x) && rest)) ≡ true
      → 1 + rels_in k ≤ count (λ w. nat_eq w x || k.rels w) (range_with_len 0 (length y.rels))
  new_rel column x from to way k rest h =
      let parts = and_parts (holds (goes catalog column from to way) (slice_get y.rels x)) (not (k.rels x) && rest) h in
      let there = holds_some (goes catalog column from to way) (slice_get y.rels x) parts.0 in
      let new = not-true (k.rels x) (and_parts (not (k.rels x)) rest parts.1).0 in
      one_more x k.rels new 0 (length y.rels) (omega arith) (omega (arith, slice_get_within y.rels x there.0 there.1))

  -- a step binds at least as many variables as it fills columns
  one_step : (s : Step) (k : Known) → fits_step catalog y s k ≡ true → own_columns y s + (nodes_in k + rels_in k) ≤ nodes_in (after_step s k) + rels_in (after_step s k)
  unfolding fits_step after_step
  one_step (Scan v) k h = let m = more (λ w. nat_eq w v) k.nodes (range_with_len 0 (length y.nodes)) in omega arith
  one_step (Extend true x from to way) k h =
      let m = more (λ w. nat_eq w to) k.nodes (range_with_len 0 (length y.nodes)) in
      let n = new_rel true x from to way k _ h in
      omega arith
  one_step (Extend false x from to way) k h =
      let m = more (λ w. nat_eq w to) k.nodes (range_with_len 0 (length y.nodes)) in
      let n = more (λ w. nat_eq w x) k.rels (range_with_len 0 (length y.rels)) in
      omega arith
  one_step (Close true x from to way) k h = let n = new_rel true x from to way k _ h in omega arith
  one_step (Close false x from to way) k h = let n = more (λ w. nat_eq w x) k.rels (range_with_len 0 (length y.rels)) in omega arith
  one_step (Join side keys) k h =
      let side_known = after side none in
      let joined = and_parts (fits catalog y side none) (is_joined y keys side_known k) h in
      let parts = and_parts (list_all (λ v. side_known.nodes v && k.nodes v) keys) _ joined.1 in
      let shared = and_parts (list_all (λ v. not (side_known.nodes v && k.nodes v) || has_number keys v) (range_with_len 0 (length y.nodes))) _ parts.1 in
      let m = both side_known.nodes k.nodes (has_number keys) (range_with_len 0 (length y.nodes)) shared.0 in
      let n = more side_known.rels k.rels (range_with_len 0 (length y.rels)) in
      let b : length (brought y side keys) ≡ count (λ v. side_known.nodes v && not (has_number keys v)) (range_with_len 0 (length y.nodes)) =
      ap (λ (f : ℕ → Bool). count (λ v. f v && not (has_number keys v)) (range_with_len 0 (length y.nodes))) (λ i v. sym (binds_is v side none ∙ or_none (binds v side)) i) in
      omega arith
  one_step (Keep i) k h = omega arith
  one_step (Differ q) k h = omega arith
  one_step (NoLoop x) k h = omega arith
  one_step (Single x from to way) k h = absurd (true≢false (sym h))
  one_step (Meet x from to way) k h = absurd (true≢false (sym h))

  own_bound : (p : Plan) (k : Known) → fits catalog y p k ≡ true → sum_by (own_columns y) (steps_of p) + (nodes_in k + rels_in k) ≤ length y.nodes + length y.rels
  unfolding fits
  own_bound Done k h =
      let n = filter_within k.nodes (range_with_len 0 (length y.nodes)) in
      let m = filter_within k.rels (range_with_len 0 (length y.rels)) in
      omega (arith, length-range_with_len 0 (length y.nodes), length-range_with_len 0 (length y.rels))
  own_bound (Then s p) k h =
      let parts = and_parts (fits_step catalog y s k) (fits catalog y p (after_step s k)) h in
      let one = one_step s k parts.0 in
      let rest = own_bound p (after_step s k) parts.1 in
      omega (arith, sum_by-cons (own_columns y) s (steps_of p))

-- ---- what the tests of a plan read

properties_append : (rs ss : List Read) → properties (rs ++ ss) ≡ properties rs ++ properties ss
properties_append rs ss = filter-append (λ (r : Read). is_property r.property) rs ss

one_test : (ts : List NamedExpr) (i : ℕ) → AllAmong (test_properties (slice_get ts i)) (properties (flat_map (λ t. reads t.expr) ts))
one_test [] i = tt
one_test (t ∷ ts) zero =
    subst (λ l. AllAmong (properties_of t.expr) l) (sym (properties_append (reads t.expr) (flat_map (λ u. reads u.expr) ts)))
    (all_left (properties_of t.expr) (properties_of t.expr) (properties (flat_map (λ u. reads u.expr) ts)) (all_self (properties_of t.expr)))
one_test (t ∷ ts) (suc i) =
    subst (λ l. AllAmong (test_properties (slice_get ts i)) l) (sym (properties_append (reads t.expr) (flat_map (λ u. reads u.expr) ts)))
    (all_right (test_properties (slice_get ts i)) (properties_of t.expr) (properties (flat_map (λ u. reads u.expr) ts)) (one_test ts i))

one_reads : (y : Typed) (s : Step) → AllAmong (step_reads y s) (properties (test_reads y))
one_reads y (Scan v) = tt
one_reads y (Extend column x from to way) = tt
one_reads y (Close column x from to way) = tt
one_reads y (Join side keys) = tt
one_reads y (Keep i) = one_test y.tests i
one_reads y (Differ q) = tt
one_reads y (NoLoop x) = tt
one_reads y (Single x from to way) = tt
one_reads y (Meet x from to way) = tt

all_reads : (y : Typed) (p : Plan) → AllAmong (flat_map (step_reads y) (steps_of p)) (properties (test_reads y))
all_reads y Done = tt
all_reads y (Then s p) = each_append (λ r. is_among (properties (test_reads y)) r ≡ true) (step_reads y s) (flat_map (step_reads y) (steps_of p)) (one_reads y s) (all_reads y p)

-- the different properties that the tests of a plan read
pub reads_bound : (catalog : Tables) (y : Typed) (p : Plan) → IsSound catalog y → length (with_reads [] (flat_map (step_reads y) (steps_of p))) ≤ max_reads
reads_bound catalog y p sound =
    let all = flat_map (step_reads y) (steps_of p) in
    omega (arith, ap length (distinct_taken all), distinct_fewer all (properties (test_reads y)) (all_reads y p), sound.reads_fit)

-- the columns of its steps, the reads of their tests apart
pub own_columns_bound : (catalog : Tables) (y : Typed) (p : Plan) → IsSound catalog y → fits catalog y p none ≡ true → sum_by (own_columns y) (steps_of p) ≤ 48
own_columns_bound catalog y p sound h = omega (arith, own_bound catalog y p none h, sound.nodes_fit, sound.rels_fit)

-- all columns of a plan that fits a sound alternative
pub columns_bound : (catalog : Tables) (y : Typed) (p : Plan) → IsSound catalog y → fits catalog y p none ≡ true → columns_of y p ≤ max_columns
columns_bound catalog y p sound h =
    omega (arith, own_columns_bound catalog y p sound h, reads_bound catalog y p sound)
