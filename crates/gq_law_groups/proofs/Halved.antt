-- A plan whose column closes run in halves means what the plan means; and what fits as it runs is counted by what its steps ask, in
-- whatever order they stand.
use Rattle.std.proofs.Common.{◌≡◌, ℕ, ◌+◌, ◌<◌, ◌≤◌, Bool, true, false, not, ◌&&◌, ◌||◌, cond, nat_eq, List, [], ◌∷◌, ◌++◌, map, filter, flat_map, length, slice_get, refl, sym, ap, ap₂, ◌∙◌, subst, arith, true≢false}
use Rattle.std.specs.Prelude.{IsPermutation, IsTrue}
use Rattle.std.specs.List.{AllByRecursion, list_all, list_any}
use Rattle.std.proofs.lemmas.Bool.{eqb-true, and_parts, and_from, not-true}
use Rattle.std.proofs.lemmas.List.{append-nil}
use Rattle.std.proofs.lemmas.List.Sorted.{list_any-IsPermutation}
use Rattle.std.proofs.lemmas.Option.{slice_get_within}
use Rattle.gq_base.specs.Catalogs.{Tables}
use Rattle.gq_base.specs.Plain.{Graph}
use Rattle.gq_base.specs.Valid.{is_valid}
use Rattle.gq_base.specs.declared.RelId.{RelId}
use Rattle.gq_base.specs.declared.direction.Direction.{Direction}
use Rattle.gq_plan.specs.Allowed.{at_same}
use Rattle.gq_plan.specs.Assignments.{Assignment}
use Rattle.gq_plan.specs.Columns.{steps_of}
use Rattle.gq_plan.specs.Covers.{after, after_step, fits, fits_step, goes}
use Rattle.gq_plan.specs.Halves.{halves, halved, runs_step, runs}
use Rattle.gq_plan.specs.Known as known
use Rattle.gq_plan.specs.Known.{Known, none}
use Rattle.gq_plan.specs.Meaning.{Partial, with_rel, look, far, rels_from, holds, keep_if, mean, step}
use Rattle.gq_plan.specs.Plans.{Plan, Done, Then, Step, Scan, Extend, Close, Join, Keep, Differ, NoLoop, Single, Meet, steps}
use Rattle.gq_plan.specs.Soundness.{IsSound}
use Rattle.gq_plan.specs.declared.typed.Typed.{Typed}
use Rattle.gq_plan.specs.Counts.{bit, hits}
use Rattle.gq_plan.proofs.Counts.{total_map, total_flat_map, total_same, hits_and_const}
use Rattle.gq_plan.proofs.Each.{each_of, each_map, each_flat_map}
use Rattle.gq_plan.proofs.Pieces.{holds_some}
use Rattle.gq_law_plans.specs.Bindings.{bound, is_rel_at, extends}
use Rattle.gq_law_plans.proofs.Counting.{met, known_by, extends_with_rel, node_look}
use Rattle.gq_law_plans.proofs.Lookups.{found_bind}
use Rattle.gq_law_plans.proofs.Owning.{Owns, owns_step}
use Rattle.gq_law_plans.proofs.PlanCounts.{placed_all_step, total_same_on, count_step, then_bit}
use Rattle.gq_search.proofs.Cells.{flat_map-flat_map, flat_map-same}
use Rattle.gq_law_groups.proofs.Single.{from_small}
use Rattle.gq_law_groups.proofs.Swapped.{own, adds}

-- ---- what is bound

or_turn : (a b c : Bool) → (a || (b || c)) ≡ ((b || a) || c)
or_turn a b c = grind arith

or_none : (b : Bool) → (b || false) ≡ b
or_none true = refl
or_none false = refl

-- what some step of a plan binds by itself
bound_in : (has : Known → Bool) (binds : Step → Bool) → ((s : Step) (k : Known) → has (after_step s k) ≡ (binds s || has k))
    → (p : Plan) (k : Known) → has (after p k) ≡ (list_any binds (steps_of p) || has k)
unfolding after
bound_in has binds more Done k = refl
bound_in has binds more (Then s p) k =
    bound_in has binds more p (after_step s k)
    ∙ ap (λ b. list_any binds (steps_of p) || b) (more s k)
    ∙ or_turn (list_any binds (steps_of p)) (binds s) (has k)

bound_node : (v : ℕ) (p : Plan) (k : Known) → (after p k).nodes v ≡ (list_any (λ s. (own s).nodes v) (steps_of p) || k.nodes v)
bound_node v p k = bound_in (λ m. m.nodes v) (λ s. (own s).nodes v) (λ s k. ap (λ (m : Known). m.nodes v) (adds s k)) p k

bound_rel : (x : ℕ) (p : Plan) (k : Known) → (after p k).rels x ≡ (list_any (λ s. (own s).rels x) (steps_of p) || k.rels x)
bound_rel x p k = bound_in (λ m. m.rels x) (λ s. (own s).rels x) (λ s k. ap (λ (m : Known). m.rels x) (adds s k)) p k

-- steps bind the same in whatever order they stand
pub bound_permuted : (p q : Plan) → IsPermutation (steps_of p) (steps_of q) → after p none ≡ after q none
bound_permuted p q same = λ i. record { nodes = λ v. nodes v i; rels = λ x. rels x i }
  where
    nodes : (v : ℕ) → (after p none).nodes v ≡ (after q none).nodes v
    nodes v = bound_node v p none ∙ ap (λ b. b || false) (list_any-IsPermutation (λ s. (own s).nodes v) (steps_of p) (steps_of q) same) ∙ sym (bound_node v q none)

    rels : (x : ℕ) → (after p none).rels x ≡ (after q none).rels x
    rels x = bound_rel x p none ∙ ap (λ b. b || false) (list_any-IsPermutation (λ s. (own s).rels x) (steps_of p) (steps_of q) same) ∙ sym (bound_rel x q none)

after_halves : (s : Step) (ss : List Step) (k : Known) → after (steps (halves s ++ ss)) k ≡ after (steps ss) (after_step s k)
unfolding after after_step
after_halves (Scan v) ss k = refl
after_halves (Extend column x from to way) ss k = refl
after_halves (Close true x from to way) ss k = refl
after_halves (Close false x from to way) ss k = refl
after_halves (Join side keys) ss k = refl
after_halves (Keep i) ss k = refl
after_halves (Differ d) ss k = refl
after_halves (NoLoop x) ss k = refl
after_halves (Single x from to way) ss k = refl
after_halves (Meet x from to way) ss k = refl

pub after_halved : (p : Plan) (k : Known) → after (halved p) k ≡ after p k
unfolding after
after_halved Done k = refl
after_halved (Then s p) k = after_halves s (flat_map halves (steps_of p)) k ∙ after_halved p (after_step s k)

-- ---- a plan that fits runs in halves

module _ (catalog : Tables) (y : Typed) where
  runs_halves : (s : Step) (ss : List Step) (k : Known) → fits_step catalog y s k ≡ true → runs catalog y (steps ss) (after_step s k) ≡ true → runs catalog y (steps (halves s ++ ss)) k ≡ true
  unfolding runs fits_step after_step
  runs_halves (Scan v) ss k fit rest = and_from _ _ fit rest
  runs_halves (Extend column x from to way) ss k fit rest = and_from _ _ fit rest
  runs_halves (Close true x from to way) ss k fit rest =
      let a = and_parts (holds (goes catalog true from to way) (slice_get y.rels x)) (not (k.rels x) && (k.nodes from && k.nodes to)) fit in
      let b = and_parts (not (k.rels x)) (k.nodes from && k.nodes to) a.1 in
      let c = and_parts (k.nodes from) (k.nodes to) b.1 in
      and_from _ _ (and_from _ _ a.0 (and_from _ _ b.0 c.0)) (and_from _ _ (and_from _ _ a.0 (and_from _ _ c.0 c.1)) rest)
  runs_halves (Close false x from to way) ss k fit rest = and_from _ _ fit rest
  runs_halves (Join side keys) ss k fit rest = and_from _ _ fit rest
  runs_halves (Keep i) ss k fit rest = and_from _ _ fit rest
  runs_halves (Differ d) ss k fit rest = and_from _ _ fit rest
  runs_halves (NoLoop x) ss k fit rest = and_from _ _ fit rest
  runs_halves (Single x from to way) ss k fit rest = absurd (true≢false (sym fit))
  runs_halves (Meet x from to way) ss k fit rest = absurd (true≢false (sym fit))

  pub runs_halved : (p : Plan) (k : Known) → fits catalog y p k ≡ true → runs catalog y (halved p) k ≡ true
  unfolding fits runs
  runs_halved Done k fit = refl
  runs_halved (Then s p) k fit =
      let parts = and_parts (fits_step catalog y s k) (fits catalog y p (after_step s k)) fit in
      runs_halves s (flat_map halves (steps_of p)) k parts.0 (runs_halved p (after_step s k) parts.1)

-- ---- the halves are the close

module _ (g : Graph) (y : Typed) (real : is_valid g ≡ true) where
  close_halves : (x from to : ℕ) (way : Direction) (a : Partial) → holds (goes g.catalog true from to way) (slice_get y.rels x) ≡ true
      → flat_map (step g y (Meet x from to way)) (step g y (Single x from to way) a) ≡ step g y (Close true x from to way) a
  unfolding step
  close_halves x from to way a there = go (rels_from g y x way (look a.nodes from)) (from_small g y real x from to way there (look a.nodes from)) refl
    where
      test : RelId → Bool
      test r = at_same (look a.nodes to) (far g way r)

      last : (r : RelId) (b : Bool) → keep_if (b || false) (with_rel x r a) ≡ map (λ q. with_rel x q a) (cond b (r ∷ []) [])
      last r true = refl
      last r false = refl

      go : (rs : List RelId) → length rs ≤ 1 → list_any test (rels_from g y x way (look a.nodes from)) ≡ list_any test rs
          → flat_map (step g y (Meet x from to way)) (map (λ r. with_rel x r a) rs) ≡ map (λ r. with_rel x r a) (filter test rs)
      go [] few is = refl
      go (r ∷ []) few is = append-nil (step g y (Meet x from to way) (with_rel x r a)) ∙ ap (λ b. keep_if b (with_rel x r a)) is ∙ last r (test r)
      go (r ∷ q ∷ rs) few is = absurd (omega arith)

  mean_halves : (s : Step) (ss : List Step) (k : Known) (a : Partial) → fits_step g.catalog y s k ≡ true → mean g y (steps (halves s ++ ss)) a ≡ flat_map (mean g y (steps ss)) (step g y s a)
  unfolding mean fits_step
  mean_halves (Scan v) ss k a fit = refl
  mean_halves (Extend column x from to way) ss k a fit = refl
  mean_halves (Close true x from to way) ss k a fit =
      sym (flat_map-flat_map (mean g y (steps ss)) (step g y (Meet x from to way)) (step g y (Single x from to way) a))
      ∙ ap (flat_map (mean g y (steps ss))) (close_halves x from to way a (and_parts (holds (goes g.catalog true from to way) (slice_get y.rels x)) _ fit).0)
  mean_halves (Close false x from to way) ss k a fit = refl
  mean_halves (Join side keys) ss k a fit = refl
  mean_halves (Keep i) ss k a fit = refl
  mean_halves (Differ d) ss k a fit = refl
  mean_halves (NoLoop x) ss k a fit = refl
  mean_halves (Single x from to way) ss k a fit = refl
  mean_halves (Meet x from to way) ss k a fit = refl

  pub mean_halved : (p : Plan) (k : Known) (a : Partial) → fits g.catalog y p k ≡ true → mean g y (halved p) a ≡ mean g y p a
  unfolding mean fits
  mean_halved Done k a fit = refl
  mean_halved (Then s p) k a fit =
      let parts = and_parts (fits_step g.catalog y s k) (fits g.catalog y p (after_step s k)) fit in
      mean_halves s (flat_map halves (steps_of p)) k a parts.0 ∙ flat_map-same (mean g y (halved p)) (mean g y p) (step g y s a) (λ e. mean_halved p (after_step s k) e parts.1)

-- ---- what is made

-- a relationship more
pub made_rel : (y : Typed) (x : ℕ) (r : RelId) (a : Partial) → Owns y a → x < length y.rels → bound a.rels x ≡ false → Owns y (with_rel x r a) × (known_by (with_rel x r a) ≡ known.with_rel x (known_by a))
made_rel y x r a h low new = (
  record {
    nodes = h.nodes;
    rels = found_bind x r a.rels new h.rels;
    nodes_low = h.nodes_low;
    rels_low = λ w e. go w (nat_eq w x) refl e;
  },
  refl,
)
  where
    go : (w : ℕ) (c : Bool) → nat_eq w x ≡ c → (c || bound a.rels w) ≡ true → w < length y.rels
    go w true e h = subst (λ u. u < length y.rels) (sym (eqb-true w x e)) low
    go w false e is = h.rels_low w is

pub rel_within : (catalog : Tables) (y : Typed) (x from to : ℕ) (way : Direction) → holds (goes catalog true from to way) (slice_get y.rels x) ≡ true → x < length y.rels
rel_within catalog y x from to way there = let r = holds_some (goes catalog true from to way) (slice_get y.rels x) there in slice_get_within y.rels x r.0 r.1

module _ (g : Graph) (y : Typed) where
  abbrev Made : Known → Partial → Type 0
  Made k e = Owns y e × (known_by e ≡ k)

  kept_made : (a : Partial) (b : Bool) → Owns y a → AllByRecursion (Made (known_by a)) (keep_if b a)
  kept_made a true h = ((h, refl), tt)
  kept_made a false h = tt

  pub owns_run : (s : Step) (a : Partial) → Owns y a → runs_step g.catalog y s (known_by a) ≡ true → AllByRecursion (λ e. Owns y e × (known_by e ≡ after_step s (known_by a))) (step g y s a)
  unfolding step after_step
  owns_run (Scan v) a h fit = owns_step g y (Scan v) a h fit
  owns_run (Extend column x from to way) a h fit = owns_step g y (Extend column x from to way) a h fit
  owns_run (Close column x from to way) a h fit = owns_step g y (Close column x from to way) a h fit
  owns_run (Join side keys) a h fit = owns_step g y (Join side keys) a h fit
  owns_run (Keep i) a h fit = owns_step g y (Keep i) a h fit
  owns_run (Differ d) a h fit = owns_step g y (Differ d) a h fit
  owns_run (NoLoop x) a h fit = owns_step g y (NoLoop x) a h fit
  owns_run (Single x from to way) a h fit =
      let parts = and_parts (holds (goes g.catalog true from to way) (slice_get y.rels x)) (not (bound a.rels x) && bound a.nodes from) fit in
      let new = and_parts (not (bound a.rels x)) (bound a.nodes from) parts.1 in
      each_map (λ r. Unit {0}) (Made (known.with_rel x (known_by a))) (λ r. with_rel x r a)
      (λ r _. made_rel y x r a h (rel_within g.catalog y x from to way parts.0) (not-true (bound a.rels x) new.0)) (rels_from g y x way (look a.nodes from)) (each_of _ (λ n. tt) _)
  owns_run (Meet x from to way) a h fit = kept_made a _ h

  pub owns_runs : (p : Plan) (a : Partial) → Owns y a → runs g.catalog y p (known_by a) ≡ true → AllByRecursion (λ e. Owns y e × (known_by e ≡ after p (known_by a))) (mean g y p a)
  unfolding mean after runs
  owns_runs Done a h fit = ((h, refl), tt)
  owns_runs (Then s p) a h fit =
      let parts = and_parts (runs_step g.catalog y s (known_by a)) (runs g.catalog y p (after_step s (known_by a))) fit in
      each_flat_map (Made (after_step s (known_by a))) (Made (after p (after_step s (known_by a)))) (mean g y p)
      (λ e k. subst (λ z. AllByRecursion (Made (after p z)) (mean g y p e)) k.1 (owns_runs p e k.0 (subst (λ z. runs g.catalog y p z ≡ true) (sym k.1) parts.1)))
      (step g y s a) (owns_run s a h parts.0)

-- ---- how often an assignment extends it

few_hits : {X : Type 0} (p : X → Bool) (xs : List X) → length xs ≤ 1 → hits p xs ≡ bit (list_any p xs)
few_hits p [] few = refl
few_hits p (x ∷ []) few = go (p x)
  where
    go : (b : Bool) → bit b + 0 ≡ bit (b || false)
    go true = refl
    go false = refl
few_hits p (x ∷ z ∷ xs) few = absurd (omega arith)

module _ (g : Graph) (y : Typed) (real : IsTrue (is_valid g)) (sound : IsSound g.catalog y) (t : Assignment) where
  -- what a step asks of an assignment: the demands that it meets; of the halves of a column close the one asks for the relationship of the
  -- source, and the other that this leads to the target
  abbrev pub asks : Step → Bool
  asks (Single x from to way) = list_any (is_rel_at (slice_get t.rels x)) (rels_from g y x way (slice_get t.nodes from))
  asks (Meet x from to way) = list_any (λ r. at_same (slice_get t.nodes to) (far g way r)) (rels_from g y x way (slice_get t.nodes from))
  asks s = list_all (met g y t) (placed_all_step s)

  same_bit : (c a b : Bool) → (c ≡ true → a ≡ b) → cond c (bit a) 0 ≡ bit (c && b)
  same_bit true a b same = ap bit (same refl)
  same_bit false a b same = refl

  kept_bit : (a : Partial) (b c : Bool) → (extends a t ≡ true → b ≡ c) → hits (λ e. extends e t) (keep_if b a) ≡ bit (extends a t && c)
  kept_bit a b c same = go b ∙ same_bit (extends a t) b c same
    where
      last : (d : Bool) → bit d + 0 ≡ cond d (bit true) 0
      last true = refl
      last false = refl

      over : (d : Bool) → bit false ≡ cond d (bit false) 0
      over true = refl
      over false = refl

      go : (b : Bool) → hits (λ e. extends e t) (keep_if b a) ≡ cond (extends a t) (bit b) 0
      go true = last (extends a t)
      go false = over (extends a t)

  count_run : (s : Step) (a : Partial) → Owns y a → runs_step g.catalog y s (known_by a) ≡ true → hits (λ e. extends e t) (step g y s a) ≡ bit (extends a t && asks s)
  unfolding step
  count_run (Scan v) a h fit = count_step g y real sound t (Scan v) a h fit
  count_run (Extend column x from to way) a h fit = count_step g y real sound t (Extend column x from to way) a h fit
  count_run (Close column x from to way) a h fit = count_step g y real sound t (Close column x from to way) a h fit
  count_run (Join side keys) a h fit = count_step g y real sound t (Join side keys) a h fit
  count_run (Keep i) a h fit = count_step g y real sound t (Keep i) a h fit
  count_run (Differ d) a h fit = count_step g y real sound t (Differ d) a h fit
  count_run (NoLoop x) a h fit = count_step g y real sound t (NoLoop x) a h fit
  count_run (Single x from to way) a h fit =
      let parts = and_parts (holds (goes g.catalog true from to way) (slice_get y.rels x)) (not (bound a.rels x) && bound a.nodes from) fit in
      let source = (and_parts (not (bound a.rels x)) (bound a.nodes from) parts.1).1 in
      let rs = rels_from g y x way (look a.nodes from) in
      total_map (λ e. bit (extends e t)) (λ r. with_rel x r a) rs
      ∙ total_same (λ r. bit (extends (with_rel x r a) t)) (λ r. bit (is_rel_at (slice_get t.rels x) r && extends a t)) (λ r. ap bit (extends_with_rel x r a t)) rs
      ∙ hits_and_const (is_rel_at (slice_get t.rels x)) (extends a t) rs
      ∙ ap (λ n. cond (extends a t) n 0) (few_hits (is_rel_at (slice_get t.rels x)) rs (from_small g y real x from to way parts.0 (look a.nodes from)))
      ∙ same_bit (extends a t) (list_any (is_rel_at (slice_get t.rels x)) rs) (asks (Single x from to way))
      (λ more. ap (λ n. list_any (is_rel_at (slice_get t.rels x)) (rels_from g y x way n)) (node_look a t more from source))
  count_run (Meet x from to way) a h fit =
      let ends = and_parts (bound a.nodes from) (bound a.nodes to) (and_parts (holds (goes g.catalog true from to way) (slice_get y.rels x)) (bound a.nodes from && bound a.nodes to) fit).1 in
      kept_bit a (list_any (λ r. at_same (look a.nodes to) (far g way r)) (rels_from g y x way (look a.nodes from))) (asks (Meet x from to way))
      (λ more. ap₂ (λ n m. list_any (λ r. at_same n (far g way r)) (rels_from g y x way m)) (node_look a t more to ends.1) (node_look a t more from ends.0))

  pub count_runs : (p : Plan) (a : Partial) → Owns y a → runs g.catalog y p (known_by a) ≡ true → hits (λ e. extends e t) (mean g y p a) ≡ bit (extends a t && list_all asks (steps_of p))
  unfolding mean runs
  count_runs Done a h fit = go (extends a t)
    where
      go : (c : Bool) → bit c + 0 ≡ bit (c && true)
      go true = refl
      go false = refl
  count_runs (Then s p) a h fit =
      let parts = and_parts (runs_step g.catalog y s (known_by a)) (runs g.catalog y p (after_step s (known_by a))) fit in
      total_flat_map (λ e. bit (extends e t)) (mean g y p) (step g y s a)
      ∙ total_same_on (λ e. Owns y e × (known_by e ≡ after_step s (known_by a))) _ (λ e. bit (extends e t && list_all asks (steps_of p)))
      (λ e k. count_runs p e k.0 (subst (λ z. runs g.catalog y p z ≡ true) (sym k.1) parts.1)) (step g y s a) (owns_run g y s a h parts.0)
      ∙ hits_and_const (λ e. extends e t) (list_all asks (steps_of p)) (step g y s a)
      ∙ ap (λ n. cond (list_all asks (steps_of p)) n 0) (count_run s a h parts.0)
      ∙ then_bit (list_all asks (steps_of p)) (extends a t) (asks s)
