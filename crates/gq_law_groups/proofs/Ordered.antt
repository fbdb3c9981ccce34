-- Where steps stand in the order of their groups, the groups that they ask to be flat are enough.
use Rattle.std.proofs.Common.{◌≡◌, ℕ, ◌+◌, ◌<◌, ◌≤◌, ◌⊎◌, inl, inr, Bool, true, false, not, ◌&&◌, ◌||◌, cond, nat_eq, nat_lt, Option, Some, None, List, [], ◌∷◌, map, filter, length, slice_get, refl, sym, ap, ◌∙◌, subst, arith, true≢false}
use Rattle.std.specs.List.{AllByRecursion, list_all, range_with_len}
use Rattle.std.proofs.lemmas.Bool.{eqb-true, eq-eqb, and_parts, and_from, or_cases, or_left, or_right, lt-ltb, cases_lt}
use Rattle.gq_base.specs.Catalogs.{Tables}
use Rattle.gq_plan.specs.Covers.{after, after_step, fits, fits_step, goes, is_new, is_joined, test_bound, pair_bound, loop_bound}
use Rattle.gq_plan.specs.Halves.{runs_step, runs}
use Rattle.gq_plan.specs.Known.{Known, none, is_bound}
use Rattle.gq_plan.specs.Meaning.{holds}
use Rattle.gq_plan.specs.Plans.{Plan, Step, Scan, Extend, Close, Join, Keep, Differ, NoLoop, Single, Meet}
use Rattle.gq_plan.specs.Reads.{Read, reads}
use Rattle.gq_plan.specs.Soundness.{has_number}
use Rattle.gq_plan.specs.declared.bound.NamedExpr.{NamedExpr}
use Rattle.gq_plan.specs.declared.typed.RelPair.{RelPair}
use Rattle.gq_plan.specs.declared.typed.Typed.{Typed}
use Rattle.gq_plan.specs.declared.typed.TypedRel.{TypedRel}
use Rattle.gq_plan.specs.declared.variable.Variable.TheVariants.{Node as node, Rel as rel}
use Rattle.gq_plan.specs.declared.variable.Variable.{Variable}
use Rattle.gq_law_groups.specs.Groups.{Group, makes_group}
use Rattle.gq_law_groups.specs.Layout.{after_all, ArePlaced, known_with, AreFlatEnough}
use Rattle.gq_law_groups.specs.Order.{NoGroups, AreCut, BindsAt, StandsAt, AllAt, InOrder, Flats, FlatsOf}
use Rattle.gq_plan.specs.Shapes.{Places, group_of, tested, flat_by, last_of}
use Rattle.gq_law_groups.proofs.Cutting.{no_join}
use Rattle.gq_law_groups.proofs.Following.{known_node, known_rel}

-- `k` knows less than `all`, but what stands in groups that are seen
pub record Sees (w : Places) (all k : Known) (seen : ℕ → Type 0) : Type 0 where
  pub node_less : (v : ℕ) → k.nodes v ≡ true → all.nodes v ≡ true
  pub rel_less : (x : ℕ) → k.rels x ≡ true → all.rels x ≡ true
  pub node_seen : (v : ℕ) → all.nodes v ≡ true → seen (w.nodes v) → k.nodes v ≡ true
  pub rel_seen : (x : ℕ) → all.rels x ≡ true → seen (w.rels x) → k.rels x ≡ true

still_new : (a b : Bool) → (b ≡ true → a ≡ true) → not a ≡ true → not b ≡ true
still_new a false h e = refl
still_new true true h e = e
still_new false true h e = absurd (true≢false (sym (h refl)))

module _ (catalog : Tables) (y : Typed) (w : Places) where
  -- what a step reads stands in groups that are seen
  abbrev pub Reads : (ℕ → Type 0) → Step → Type 0
  Reads seen (Scan v) = Unit {0}
  Reads seen (Extend column x from to direction) = seen (w.nodes from)
  Reads seen (Close column x from to direction) = seen (w.nodes from) × seen (w.nodes to)
  Reads seen (Join side keys) = AllByRecursion (λ v. seen (w.nodes v)) keys
  Reads seen (Keep i) = (t : NamedExpr) → slice_get y.tests i ≡ Some t → AllByRecursion (λ (r : Read). seen (group_of w r.variable)) (reads t.expr)
  Reads seen (Differ p) = (q : RelPair) → slice_get y.pairs p ≡ Some q → seen (w.rels q.first) × seen (w.rels q.second)
  Reads seen (NoLoop x) = seen (w.rels x) × ((r : TypedRel) → slice_get y.rels x ≡ Some r → seen (w.nodes r.source) × seen (w.nodes r.target))
  Reads seen (Single x from to way) = seen (w.nodes from)
  Reads seen (Meet x from to way) = seen (w.nodes from) × seen (w.nodes to)

  module _ (all k : Known) (seen : ℕ → Type 0) (sees : Sees w all k seen) where
    new_still : (v : ℕ) → is_new y all v ≡ true → is_new y k v ≡ true
    new_still v h =
        let parts = and_parts (nat_lt v (length y.nodes)) (not (all.nodes v)) h in
        and_from (nat_lt v (length y.nodes)) (not (k.nodes v)) parts.0 (still_new (all.nodes v) (k.nodes v) (sees.node_less v) parts.1)

    reads_seen : (rs : List Read) → AllByRecursion (λ (r : Read). seen (group_of w r.variable)) rs → list_all (λ (r : Read). is_bound all r.variable) rs ≡ true → list_all (λ (r : Read). is_bound k r.variable) rs ≡ true
    reads_seen [] h e = refl
    reads_seen (r ∷ rs) h e =
        let parts = and_parts (is_bound all r.variable) (list_all (λ (q : Read). is_bound all q.variable) rs) e in
        and_from (is_bound k r.variable) (list_all (λ (q : Read). is_bound k q.variable) rs) (one r.variable h.0 parts.0) (reads_seen rs h.1 parts.1)
      where
        one : (v : Variable) → seen (group_of w v) → is_bound all v ≡ true → is_bound k v ≡ true
        one (node v) s b = sees.node_seen v b s
        one (rel x) s b = sees.rel_seen x b s

    keys_seen : (side : ℕ → Bool) (keys : List ℕ) → AllByRecursion (λ v. seen (w.nodes v)) keys → list_all (λ v. side v && all.nodes v) keys ≡ true → list_all (λ v. side v && k.nodes v) keys ≡ true
    keys_seen side [] h e = refl
    keys_seen side (v ∷ keys) h e =
        let parts = and_parts (side v && all.nodes v) (list_all (λ u. side u && all.nodes u) keys) e in
        let both = and_parts (side v) (all.nodes v) parts.0 in
        and_from (side v && k.nodes v) (list_all (λ u. side u && k.nodes u) keys) (and_from (side v) (k.nodes v) both.0 (sees.node_seen v both.1 h.0)) (keys_seen side keys h.1 parts.1)

    each_still : (p q : ℕ → Bool) → ((v : ℕ) → p v ≡ true → q v ≡ true) → (vs : List ℕ) → list_all p vs ≡ true → list_all q vs ≡ true
    each_still p q h [] e = refl
    each_still p q h (v ∷ vs) e = (let parts = and_parts (p v) (list_all p vs) e in and_from (q v) (list_all q vs) (h v parts.0) (each_still p q h vs parts.1))

    shared_still : (a b c d : Bool) → (b ≡ true → a ≡ true) → (not (d && a) || c) ≡ true → (not (d && b) || c) ≡ true
    shared_still a b c false h e = refl
    shared_still a false c true h e = refl
    shared_still true true c true h e = e
    shared_still false true c true h e = absurd (true≢false (sym (h refl)))

    apart_still : (a b d : Bool) → (b ≡ true → a ≡ true) → not (d && a) ≡ true → not (d && b) ≡ true
    apart_still a b false h e = refl
    apart_still a b true h e = still_new a b h e

    -- a step fits where less is known, if what it reads is seen
    pub fits_seen : (s : Step) → Reads seen s → runs_step catalog y s all ≡ true → runs_step catalog y s k ≡ true
    unfolding fits_step
    fits_seen (Scan v) r h = new_still v h
    fits_seen (Extend column x from to way) r h =
        let a = and_parts (holds (goes catalog column from to way) (slice_get y.rels x)) (not (all.rels x) && (all.nodes from && is_new y all to)) h in
        let b = and_parts (not (all.rels x)) (all.nodes from && is_new y all to) a.1 in
        let c = and_parts (all.nodes from) (is_new y all to) b.1 in
        and_from _ _ a.0 (and_from _ _ (still_new (all.rels x) (k.rels x) (sees.rel_less x) b.0) (and_from _ _ (sees.node_seen from c.0 r) (new_still to c.1)))
    fits_seen (Close column x from to way) r h =
        let a = and_parts (holds (goes catalog column from to way) (slice_get y.rels x)) (not (all.rels x) && (all.nodes from && all.nodes to)) h in
        let b = and_parts (not (all.rels x)) (all.nodes from && all.nodes to) a.1 in
        let c = and_parts (all.nodes from) (all.nodes to) b.1 in
        and_from _ _ a.0 (and_from _ _ (still_new (all.rels x) (k.rels x) (sees.rel_less x) b.0) (and_from _ _ (sees.node_seen from c.0 r.0) (sees.node_seen to c.1 r.1)))
    fits_seen (Join side keys) r h =
        let a = and_parts (fits catalog y side none) (is_joined y keys (after side none) all) h in
        let b = and_parts (list_all (λ v. (after side none).nodes v && all.nodes v) keys) (list_all (λ v. not ((after side none).nodes v && all.nodes v) || has_number keys v) (range_with_len 0 (length y.nodes)) && list_all (λ x. not ((after side none).rels x && all.rels x)) (range_with_len 0 (length y.rels))) a.1 in
        let c = and_parts (list_all (λ v. not ((after side none).nodes v && all.nodes v) || has_number keys v) (range_with_len 0 (length y.nodes))) (list_all (λ x. not ((after side none).rels x && all.rels x)) (range_with_len 0 (length y.rels))) b.1 in
        and_from _ _ a.0 (and_from _ _ (keys_seen (after side none).nodes keys r b.0)
        (and_from _ _
        (each_still (λ v. not ((after side none).nodes v && all.nodes v) || has_number keys v) (λ v. not ((after side none).nodes v && k.nodes v) || has_number keys v) (λ v e. shared_still (all.nodes v) (k.nodes v) (has_number keys v) ((after side none).nodes v) (sees.node_less v) e) (range_with_len 0 (length y.nodes)) c.0)
        (each_still (λ x. not ((after side none).rels x && all.rels x)) (λ x. not ((after side none).rels x && k.rels x)) (λ x e. apart_still (all.rels x) (k.rels x) ((after side none).rels x) (sees.rel_less x) e) (range_with_len 0 (length y.rels)) c.1)))
    fits_seen (Keep i) r h = go (slice_get y.tests i) r h
      where
        go : (o : Option NamedExpr) → ((t : NamedExpr) → o ≡ Some t → AllByRecursion (λ (q : Read). seen (group_of w q.variable)) (reads t.expr)) → holds (test_bound all) o ≡ true → holds (test_bound k) o ≡ true
        go None r h = h
        go (Some t) r h = reads_seen (reads t.expr) (r t refl) h
    fits_seen (Differ p) r h = go (slice_get y.pairs p) r h
      where
        go : (o : Option RelPair) → ((q : RelPair) → o ≡ Some q → seen (w.rels q.first) × seen (w.rels q.second)) → holds (pair_bound all) o ≡ true → holds (pair_bound k) o ≡ true
        go None r h = h
        go (Some q) r h = (let b = and_parts (all.rels q.first) (all.rels q.second) h in and_from _ _ (sees.rel_seen q.first b.0 (r q refl).0) (sees.rel_seen q.second b.1 (r q refl).1))
    fits_seen (NoLoop x) r h = go (slice_get y.rels x) r.1 h
      where
        go : (o : Option TypedRel) → ((q : TypedRel) → o ≡ Some q → seen (w.nodes q.source) × seen (w.nodes q.target)) → holds (loop_bound all x) o ≡ true → holds (loop_bound k x) o ≡ true
        go None e h = h
        go (Some q) e h =
            let a = and_parts q.no_loop (all.rels x && (all.nodes q.source && all.nodes q.target)) h in
            let b = and_parts (all.rels x) (all.nodes q.source && all.nodes q.target) a.1 in
            let c = and_parts (all.nodes q.source) (all.nodes q.target) b.1 in
            and_from _ _ a.0 (and_from _ _ (sees.rel_seen x b.0 r.0) (and_from _ _ (sees.node_seen q.source c.0 (e q refl).0) (sees.node_seen q.target c.1 (e q refl).1)))
    fits_seen (Single x from to way) r h =
        let a = and_parts (holds (goes catalog true from to way) (slice_get y.rels x)) (not (all.rels x) && all.nodes from) h in
        let b = and_parts (not (all.rels x)) (all.nodes from) a.1 in
        and_from _ _ a.0 (and_from _ _ (still_new (all.rels x) (k.rels x) (sees.rel_less x) b.0) (sees.node_seen from b.1 r))
    fits_seen (Meet x from to way) r h =
        let a = and_parts (holds (goes catalog true from to way) (slice_get y.rels x)) (all.nodes from && all.nodes to) h in
        let b = and_parts (all.nodes from) (all.nodes to) a.1 in
        and_from _ _ a.0 (and_from _ _ (sees.node_seen from b.0 r.0) (sees.node_seen to b.1 r.1))

-- ---- what is seen after a step

or_map : (p a b : Bool) → (a ≡ true → b ≡ true) → (p || a) ≡ true → (p || b) ≡ true
or_map true a b h e = refl
or_map false a b h e = h e

sees_step : (w : Places) (s : Step) (all k : Known) (seen more : ℕ → Type 0) → Sees w all k seen → ((v : ℕ) → all.nodes v ≡ true → more (w.nodes v) → seen (w.nodes v)) → ((x : ℕ) → all.rels x ≡ true → more (w.rels x) → seen (w.rels x))
    → Sees w (after_step s all) (after_step s k) more
unfolding after_step
sees_step w (Scan u) all k seen more sees f h = record {
  node_less = λ v e. or_map (nat_eq v u) (k.nodes v) (all.nodes v) (sees.node_less v) e;
  rel_less = sees.rel_less;
  node_seen = λ v e m. or_map (nat_eq v u) (all.nodes v) (k.nodes v) (λ a. sees.node_seen v a (f v a m)) e;
  rel_seen = λ x e m. sees.rel_seen x e (h x e m);
}
sees_step w (Extend column z from to way) all k seen more sees f h = record {
  node_less = λ v e. or_map (nat_eq v to) (k.nodes v) (all.nodes v) (sees.node_less v) e;
  rel_less = λ x e. or_map (nat_eq x z) (k.rels x) (all.rels x) (sees.rel_less x) e;
  node_seen = λ v e m. or_map (nat_eq v to) (all.nodes v) (k.nodes v) (λ a. sees.node_seen v a (f v a m)) e;
  rel_seen = λ x e m. or_map (nat_eq x z) (all.rels x) (k.rels x) (λ a. sees.rel_seen x a (h x a m)) e;
}
sees_step w (Close column z from to way) all k seen more sees f h = record {
  node_less = sees.node_less;
  rel_less = λ x e. or_map (nat_eq x z) (k.rels x) (all.rels x) (sees.rel_less x) e;
  node_seen = λ v e m. sees.node_seen v e (f v e m);
  rel_seen = λ x e m. or_map (nat_eq x z) (all.rels x) (k.rels x) (λ a. sees.rel_seen x a (h x a m)) e;
}
sees_step w (Join side keys) all k seen more sees f h = record {
  node_less = λ v e. or_map ((after side none).nodes v) (k.nodes v) (all.nodes v) (sees.node_less v) e;
  rel_less = λ x e. or_map ((after side none).rels x) (k.rels x) (all.rels x) (sees.rel_less x) e;
  node_seen = λ v e m. or_map ((after side none).nodes v) (all.nodes v) (k.nodes v) (λ a. sees.node_seen v a (f v a m)) e;
  rel_seen = λ x e m. or_map ((after side none).rels x) (all.rels x) (k.rels x) (λ a. sees.rel_seen x a (h x a m)) e;
}
sees_step w (Keep i) all k seen more sees f h = record { node_less = sees.node_less; rel_less = sees.rel_less; node_seen = λ v e m. sees.node_seen v e (f v e m); rel_seen = λ x e m. sees.rel_seen x e (h x e m) }
sees_step w (Differ p) all k seen more sees f h = record { node_less = sees.node_less; rel_less = sees.rel_less; node_seen = λ v e m. sees.node_seen v e (f v e m); rel_seen = λ x e m. sees.rel_seen x e (h x e m) }
sees_step w (NoLoop x) all k seen more sees f h = record { node_less = sees.node_less; rel_less = sees.rel_less; node_seen = λ v e m. sees.node_seen v e (f v e m); rel_seen = λ x e m. sees.rel_seen x e (h x e m) }
sees_step w (Single z from to way) all k seen more sees f h = record {
  node_less = sees.node_less;
  rel_less = λ x e. or_map (nat_eq x z) (k.rels x) (all.rels x) (sees.rel_less x) e;
  node_seen = λ v e m. sees.node_seen v e (f v e m);
  rel_seen = λ x e m. or_map (nat_eq x z) (all.rels x) (k.rels x) (λ a. sees.rel_seen x a (h x a m)) e;
}
sees_step w (Meet z from to way) all k seen more sees f h = record { node_less = sees.node_less; rel_less = sees.rel_less; node_seen = λ v e m. sees.node_seen v e (f v e m); rel_seen = λ x e m. sees.rel_seen x e (h x e m) }

-- ---- what is flat is seen

abbrev FlatAt : (ℕ → Bool) → ℕ → Type 0
FlatAt flat j = flat j ≡ true

abbrev SeenIn : (ℕ → Bool) → ℕ → ℕ → Type 0
SeenIn flat i j = (j ≡ i) ⊎ (flat j ≡ true)

pub low_from : (m : ℕ) (js : List ℕ) → last_of js ≤ m → AllByRecursion (λ j. j ≤ m) js
low_from m [] h = tt
low_from m (j ∷ js) h = (omega arith, low_from m js (omega arith))

all_seen : (flat : ℕ → Bool) (i m : ℕ) → m ≡ i → (js : List ℕ) → AllByRecursion (λ j. j ≤ m) js → ((j : ℕ) → has_number (filter (λ q. nat_lt q m) js) j ≡ true → flat j ≡ true) → AllByRecursion (SeenIn flat i) js
all_seen flat i m e [] low h = tt
all_seen flat i m e (j ∷ js) low h = go (nat_lt j m) refl h (all_seen flat i m e js low.1)
  where
    go : (b : Bool) → nat_lt j m ≡ b → ((q : ℕ) → has_number (cond b (j ∷ filter (λ q. nat_lt q m) js) (filter (λ q. nat_lt q m) js)) q ≡ true → flat q ≡ true)
        → (((q : ℕ) → has_number (filter (λ q. nat_lt q m) js) q ≡ true → flat q ≡ true) → AllByRecursion (SeenIn flat i) js) → AllByRecursion (SeenIn flat i) (j ∷ js)
    go true is h rec = (inr (h j (or_left (nat_eq j j) (has_number (filter (λ q. nat_lt q m) js) j) (eq-eqb j j refl))), rec (λ q e. h q (or_right (nat_eq q j) (has_number (filter (λ q. nat_lt q m) js) q) e)))
    go false is h rec = (inl (same (cases_lt j m)), rec h)
      where
        same : (j < m) ⊎ (m ≤ j) → j ≡ i
        same (inl less) = absurd (true≢false (sym (lt-ltb j m less) ∙ is))
        same (inr high) = (let l : j ≤ m = low.0 in omega arith)

pub unmapped : {X : Type 0} (P : ℕ → Type 0) (f : X → ℕ) (xs : List X) → AllByRecursion P (map f xs) → AllByRecursion (λ x. P (f x)) xs
unmapped P f [] h = tt
unmapped P f (x ∷ xs) h = (h.0, unmapped P f xs h.1)

keys_flat : (w : Places) (flat : ℕ → Bool) (keys : List ℕ) → ((j : ℕ) → has_number (map w.nodes keys) j ≡ true → flat j ≡ true) → AllByRecursion (λ v. FlatAt flat (w.nodes v)) keys
keys_flat w flat [] h = tt
keys_flat w flat (v ∷ keys) h = (
  h (w.nodes v) (or_left (nat_eq (w.nodes v) (w.nodes v)) (has_number (map w.nodes keys) (w.nodes v)) (eq-eqb (w.nodes v) (w.nodes v) refl)),
  keys_flat w flat keys (λ j e. h j (or_right (nat_eq j (w.nodes v)) (has_number (map w.nodes keys) j) e)),
)

-- a key of a join is known on both of its sides
pub key_known : (side known : ℕ → Bool) (v : ℕ) (keys : List ℕ) → list_all (λ u. side u && known u) keys ≡ true → has_number keys v ≡ true → known v ≡ true
key_known side known v [] h k = absurd (true≢false (sym k))
key_known side known v (u ∷ keys) h k =
    let parts = and_parts (side u && known u) (list_all (λ q. side q && known q) keys) h in
    let rest = key_known side known v keys parts.1 in
    elim (or_cases (nat_eq v u) (has_number keys v) k) [ inl same ↦ ap known (eqb-true v u same) ∙ (and_parts (side u) (known u) parts.0).1 | inr more ↦ rest more ]

module _ (catalog : Tables) (y : Typed) (w : Places) (flat : ℕ → Bool) where
  abbrev AsksFlat : Step → Type 0
  AsksFlat s = (j : ℕ) → has_number (flat_by y w s) j ≡ true → flat j ≡ true

  binds_read : (s : Step) → makes_group s ≡ true → AsksFlat s → Reads catalog y w (FlatAt flat) s
  binds_read (Scan v) m h = tt
  binds_read (Extend false x from to way) m h = h (w.nodes from) (or_left (nat_eq (w.nodes from) (w.nodes from)) false (eq-eqb (w.nodes from) (w.nodes from) refl))
  binds_read (Extend true x from to way) m h = absurd (true≢false (sym m))
  binds_read (Close false x from to way) m h = (
    h (w.nodes from) (or_left (nat_eq (w.nodes from) (w.nodes from)) _ (eq-eqb (w.nodes from) (w.nodes from) refl)),
    h (w.nodes to) (or_right (nat_eq (w.nodes to) (w.nodes from)) _ (or_left (nat_eq (w.nodes to) (w.nodes to)) false (eq-eqb (w.nodes to) (w.nodes to) refl))),
  )
  binds_read (Close true x from to way) m h = absurd (true≢false (sym m))
  binds_read (Join side keys) m h = keys_flat w flat keys h
  binds_read (Keep i) m h = absurd (true≢false (sym m))
  binds_read (Differ p) m h = absurd (true≢false (sym m))
  binds_read (NoLoop x) m h = absurd (true≢false (sym m))
  binds_read (Single x from to way) m h = absurd (true≢false (sym m))
  binds_read (Meet x from to way) m h = absurd (true≢false (sym m))

  checks_read : (i : ℕ) (s : Step) → makes_group s ≡ false → StandsAt y w i s → AsksFlat s → Reads catalog y w (SeenIn flat i) s
  checks_read i (Scan v) m at h = absurd (true≢false m)
  checks_read i (Extend false x from to way) m at h = absurd (true≢false m)
  checks_read i (Extend true x from to way) m at h = inl at
  checks_read i (Close false x from to way) m at h = absurd (true≢false m)
  checks_read i (Close true x from to way) m at h =
      let a = all_seen flat i (last_of (w.nodes from ∷ w.nodes to ∷ [])) at (w.nodes from ∷ w.nodes to ∷ []) (low_from (last_of (w.nodes from ∷ w.nodes to ∷ [])) (w.nodes from ∷ w.nodes to ∷ []) (omega arith)) h in
      (a.0, a.1.0)
  checks_read i (Join side keys) m at h = absurd (true≢false m)
  checks_read i (Keep n) m at h = λ t is. (let a = all_seen flat i (last_of (tested y w (Keep n))) at (tested y w (Keep n)) (low_from (last_of (tested y w (Keep n))) (tested y w (Keep n)) (omega arith)) h in
      unmapped (SeenIn flat i) (λ (r : Read). group_of w r.variable) (reads t.expr) (subst (λ o. AllByRecursion (SeenIn flat i) (Rattle.gq_plan.specs.Shapes.test_groups w o)) is a))
  checks_read i (Differ p) m at h = λ q is. (let a = all_seen flat i (last_of (tested y w (Differ p))) at (tested y w (Differ p)) (low_from (last_of (tested y w (Differ p))) (tested y w (Differ p)) (omega arith)) h in
      let b = subst (λ o. AllByRecursion (SeenIn flat i) (Rattle.gq_plan.specs.Shapes.pair_groups w o)) is a in (b.0, b.1.0))
  checks_read i (NoLoop x) m at h =
      let a = all_seen flat i (last_of (tested y w (NoLoop x))) at (tested y w (NoLoop x)) (low_from (last_of (tested y w (NoLoop x))) (tested y w (NoLoop x)) (omega arith)) h in
      (a.0, λ q is. (let b = subst (λ o. AllByRecursion (SeenIn flat i) (Rattle.gq_plan.specs.Shapes.end_groups w o)) is a.1 in (b.0, b.1.0)))
  checks_read i (Single x from to way) m at h = inl at
  checks_read i (Meet x from to way) m at h =
      let a = all_seen flat i (last_of (w.nodes from ∷ w.nodes to ∷ [])) at (w.nodes from ∷ w.nodes to ∷ []) (low_from (last_of (w.nodes from ∷ w.nodes to ∷ [])) (w.nodes from ∷ w.nodes to ∷ []) (omega arith)) h in
      (a.0, a.1.0)

  -- ---- what was known, and what a group binds

  new_at : (i : ℕ) (s : Step) (all : Known) → BindsAt y w i s → runs_step catalog y s all ≡ true → (v : ℕ) → (after_step s all).nodes v ≡ true → (all.nodes v ≡ true) ⊎ (w.nodes v ≡ i)
  unfolding after_step fits_step
  new_at i (Scan u) all b fit v e = elim (or_cases (nat_eq v u) (all.nodes v) e) [ inl same ↦ inr (ap w.nodes (eqb-true v u same) ∙ b) | inr old ↦ inl old ]
  new_at i (Extend column x from to way) all b fit v e = elim (or_cases (nat_eq v to) (all.nodes v) e) [ inl same ↦ inr (ap w.nodes (eqb-true v to same) ∙ b.0) | inr old ↦ inl old ]
  new_at i (Close column x from to way) all b fit v e = inl e
  new_at i (Join side keys) all b fit v e = elim (or_cases ((after side none).nodes v) (all.nodes v) e) [ inl own ↦ go (has_number keys v) refl own | inr old ↦ inl old ]
    where
      go : (c : Bool) → has_number keys v ≡ c → (after side none).nodes v ≡ true → (all.nodes v ≡ true) ⊎ (w.nodes v ≡ i)
      go true k own = inl (key_known (λ u. (after side none).nodes u) (λ u. all.nodes u) v keys (and_parts (list_all (λ u. (after side none).nodes u && all.nodes u) keys) _ (and_parts (fits catalog y side none) (is_joined y keys (after side none) all) fit).1).0 k)
      go false k own = inr (b.0 v (and_from ((after side none).nodes v) (not (has_number keys v)) own (ap not k)))
  new_at i (Keep n) all b fit v e = inl e
  new_at i (Differ p) all b fit v e = inl e
  new_at i (NoLoop x) all b fit v e = inl e
  new_at i (Single x from to way) all b fit v e = inl e
  new_at i (Meet x from to way) all b fit v e = inl e

  new_rel_at : (i : ℕ) (s : Step) (all : Known) → BindsAt y w i s → (x : ℕ) → (after_step s all).rels x ≡ true → (all.rels x ≡ true) ⊎ (w.rels x ≡ i)
  unfolding after_step
  new_rel_at i (Scan u) all b x e = inl e
  new_rel_at i (Extend column z from to way) all b x e = elim (or_cases (nat_eq x z) (all.rels x) e) [ inl same ↦ inr (ap w.rels (eqb-true x z same) ∙ b.1) | inr old ↦ inl old ]
  new_rel_at i (Close column z from to way) all b x e = elim (or_cases (nat_eq x z) (all.rels x) e) [ inl same ↦ inr (ap w.rels (eqb-true x z same) ∙ b) | inr old ↦ inl old ]
  new_rel_at i (Join side keys) all b x e = elim (or_cases ((after side none).rels x) (all.rels x) e) [ inl own ↦ inr (b.1 x own) | inr old ↦ inl old ]
  new_rel_at i (Keep n) all b x e = inl e
  new_rel_at i (Differ p) all b x e = inl e
  new_rel_at i (NoLoop z) all b x e = inl e
  new_rel_at i (Single z from to way) all b x e = elim (or_cases (nat_eq x z) (all.rels x) e) [ inl same ↦ inr (ap w.rels (eqb-true x z same) ∙ b) | inr old ↦ inl old ]
  new_rel_at i (Meet z from to way) all b x e = inl e

  -- what is known before a group stands in groups before it
  pub record IsBefore (i : ℕ) (all : Known) : Type 0 where
    pub nodes : (v : ℕ) → all.nodes v ≡ true → w.nodes v < i
    pub rels : (x : ℕ) → all.rels x ≡ true → w.rels x < i

  -- what is known in a group was known before it, or stands in it
  pub record IsIn (i : ℕ) (old all : Known) : Type 0 where
    pub nodes : (v : ℕ) → all.nodes v ≡ true → (old.nodes v ≡ true) ⊎ (w.nodes v ≡ i)
    pub rels : (x : ℕ) → all.rels x ≡ true → (old.rels x ≡ true) ⊎ (w.rels x ≡ i)

  in_step : (i : ℕ) (s : Step) (old all : Known) → BindsAt y w i s → runs_step catalog y s all ≡ true → IsIn i old all → IsIn i old (after_step s all)
  in_step i s old all b fit h = record {
    nodes = λ v e. (let hv = h.nodes v in elim (new_at i s all b fit v e) [ inl a ↦ hv a | inr q ↦ inr q ]);
    rels = λ x e. (let hx = h.rels x in elim (new_rel_at i s all b x e) [ inl a ↦ hx a | inr q ↦ inr q ]);
  }

  -- ---- what is known of a group that is not flat: nothing that its steps bind

  abbrev FlatBeside : ℕ → ℕ → Type 0
  FlatBeside i j = (flat j ≡ true) × (j ≡ i → ⊥)

  beside_step : (i : ℕ) (s : Step) (all k : Known) → BindsAt y w i s → runs_step catalog y s all ≡ true
      → ((v : ℕ) → k.nodes v ≡ true → all.nodes v ≡ true) → ((x : ℕ) → k.rels x ≡ true → all.rels x ≡ true)
      → ((v : ℕ) → all.nodes v ≡ true → FlatBeside i (w.nodes v) → k.nodes v ≡ true) → ((x : ℕ) → all.rels x ≡ true → FlatBeside i (w.rels x) → k.rels x ≡ true)
      → Sees w (after_step s all) k (FlatBeside i)
  beside_step i s all k b fit nodes_less rels_less nodes_seen rels_seen = record {
    node_less = λ v e. known_node s all v (nodes_less v e);
    rel_less = λ x e. known_rel s all x (rels_less x e);
    node_seen = λ v e f. (let seen = nodes_seen v in elim (new_at i s all b fit v e) [ inl o ↦ seen o f | inr q ↦ absurd (f.1 q) ]);
    rel_seen = λ x e f. (let seen = rels_seen x in elim (new_rel_at i s all b x e) [ inl o ↦ seen o f | inr q ↦ absurd (f.1 q) ]);
  }

  -- the steps that are placed at a group

  checks_enough : (i : ℕ) (ks : List Step) (p : Plan) (old all k few : Known) → NoGroups ks → AllAt y w i ks → Flats y w flat ks → runs catalog y (Rattle.gq_law_groups.specs.Groups.checked ks p) all ≡ true
      → Sees w all k (SeenIn flat i) → Sees w all few (FlatBeside i) → IsIn i old all
      → ArePlaced catalog y ks k × Sees w (after_all ks all) (after_all ks k) (SeenIn flat i) × Sees w (after_all ks all) few (FlatBeside i) × IsIn i old (after_all ks all)
      × (runs catalog y p (after_all ks all) ≡ true)
  unfolding runs
  checks_enough i [] p old all k few small at asks fit sees beside inside = (tt, sees, beside, inside, fit)
  checks_enough i (s ∷ ks) p old all k few small at asks fit sees beside inside =
      let parts = and_parts (runs_step catalog y s all) (runs catalog y (Rattle.gq_law_groups.specs.Groups.checked ks p) (after_step s all)) fit in
      let here = fits_seen catalog y w all k (SeenIn flat i) sees s (checks_read i s small.0 at.1 asks.0) parts.0 in
      let rest = checks_enough i ks p old (after_step s all) (after_step s k) few small.1 at.2 asks.1 parts.1
      (sees_step w s all k (SeenIn flat i) (SeenIn flat i) sees (λ v e m. m) (λ x e m. m))
      (beside_step i s all few at.0 parts.0 beside.node_less beside.rel_less beside.node_seen beside.rel_seen) (in_step i s old all at.0 parts.0 inside) in
      ((no_join s small.0, here, rest.0), rest.1, rest.2, rest.3, rest.4)

  sees_next : (i : ℕ) (b : Group) (all k end : Known) → Sees w all end (SeenIn flat i) → Sees w all k (FlatBeside i) → (f : Bool) → flat i ≡ f
      → end ≡ after_all b.checks (after_step b.binds k) → Sees w all (known_with f b k) (FlatAt flat)
  sees_next i b all k end own beside true is e =
      subst (λ z. Sees w all z (FlatAt flat)) e (record { node_less = own.node_less; rel_less = own.rel_less; node_seen = λ v a m. own.node_seen v a (inr m); rel_seen = λ x a m. own.rel_seen x a (inr m) })
  sees_next i b all k end own beside false is e = record {
    node_less = beside.node_less;
    rel_less = beside.rel_less;
    node_seen = λ v a m. beside.node_seen v a (m, λ q. true≢false (sym m ∙ ap flat q ∙ is));
    rel_seen = λ x a m. beside.rel_seen x a (m, λ q. true≢false (sym m ∙ ap flat q ∙ is));
  }

  pub groups_enough : (gs : List Group) (i : ℕ) (all k : Known) → AreCut gs → InOrder y w i gs → FlatsOf y w flat gs → runs catalog y (Rattle.gq_law_groups.specs.Groups.plan_of gs) all ≡ true → Sees w all k (FlatAt flat) → IsBefore i all
      → AreFlatEnough catalog y flat i gs k
  unfolding runs
  groups_enough [] i all k cut order asks fit sees before = tt
  groups_enough (b ∷ gs) i all k cut order asks fit sees before =
      let parts = and_parts (runs_step catalog y b.binds all) (runs catalog y (Rattle.gq_law_groups.specs.Groups.checked b.checks (Rattle.gq_law_groups.specs.Groups.plan_of gs)) (after_step b.binds all)) fit in
      let here = fits_seen catalog y w all k (FlatAt flat) sees b.binds (binds_read b.binds cut.0 asks.0) parts.0 in
      let first : Sees w (after_step b.binds all) (after_step b.binds k) (SeenIn flat i) =
      sees_step w b.binds all k (FlatAt flat) (SeenIn flat i) sees (λ v e m. flat_of (w.nodes v) (before.nodes v e) m) (λ x e m. flat_of (w.rels x) (before.rels x e) m) in
      let inside : IsIn i all (after_step b.binds all) = record {
        nodes = λ v e. new_at i b.binds all order.0 parts.0 v e;
        rels = λ x e. new_rel_at i b.binds all order.0 x e;
      } in
      let beside = beside_step i b.binds all k order.0 parts.0 sees.node_less sees.rel_less (λ v e f. sees.node_seen v e f.0) (λ x e f. sees.rel_seen x e f.0) in
      let on = checks_enough i b.checks (Rattle.gq_law_groups.specs.Groups.plan_of gs) all (after_step b.binds all) (after_step b.binds k) k cut.1 order.1 asks.1 parts.1 first beside inside in (
        here,
        on.0,
        groups_enough gs (i + 1) (after_all b.checks (after_step b.binds all)) (known_with (flat i) b k) cut.2 order.2 asks.2 on.4
            (sees_next i b (after_all b.checks (after_step b.binds all)) k (after_all b.checks (after_step b.binds k)) on.1 on.2 (flat i) refl refl)
            (record { nodes = λ v e. (let old = before.nodes v in elim (on.3.nodes v e) [ inl o ↦ (let l = old o in omega arith) | inr q ↦ omega arith ]); rels = λ x e. (let old = before.rels x in elim (on.3.rels x e) [ inl o ↦ (let l = old o in omega arith) | inr q ↦ omega arith ]) }),
      )
    where
      flat_of : (j : ℕ) → j < i → SeenIn flat i j → flat j ≡ true
      flat_of j low (inl e) = absurd (omega arith)
      flat_of j low (inr e) = e
