-- A join at a depth: what a try of it makes is what is said of the step there.
use Rattle.std.proofs.Common.{◌≡◌, ℕ, zero, suc, ◌+◌, ◌<◌, ◌≤◌, Bool, true, false, not, ◌&&◌, ◌||◌, cond, nat_eq, Option, Some, None, List, [], ◌∷◌, map, filter, length, drop, get_or, slice_get, refl, sym, ap, ap₂, ◌∙◌, subst, arith, inl, inr, ◌⊎◌, true≢false}
use Rattle.std.specs.Prelude.{All, slice_index, slice_index_or}
use Rattle.std.specs.List.{list_all, range_with_len, AllByRecursion}
use Rattle.std.proofs.lemmas.Bool.{and_parts, or_cases, eq-eqb, eqb-true, cases_eq, ltb-true}
use Rattle.std.proofs.lemmas.List.{get_or_default, length-map}
use Rattle.std.proofs.lemmas.List.Elements.{All-from_recursion}
use Rattle.std.proofs.lemmas.List.FromFn.{get_or-map-range_with_len}
use Rattle.std.proofs.lemmas.Option.{slice_get_within, get_or_from_slice_get}
use Rattle.gq_base.specs.Catalogs.{Tables}
use Rattle.gq_base.specs.Plain.{Graph}
use Rattle.gq_base.specs.Valid.{row_count}
use Rattle.gq_join.specs.Kept.{Held, columns, has_key, matches_of, node_in, rel_in, place_of}
use Rattle.gq_plan.specs.declared.assignment.Assignment.{Assignment}
use Rattle.gq_plan.proofs.Halved.{fits_runs}
use Rattle.gq_plan.specs.Covers.{after, after_step, fits, goes, is_joined}
use Rattle.gq_plan.specs.Halves.{runs_step, runs}
use Rattle.gq_plan.specs.Known.{Known, none, with_both}
use Rattle.gq_plan.specs.Meaning.{Partial, nothing, with_all, holds}
use Rattle.gq_plan.specs.Soundness.{has_number}
use Rattle.gq_plan.specs.Plans.{Plan, Done, Then, Step, Scan, Extend, Close, Join, Keep, Differ, NoLoop, Single, Meet, steps}
use Rattle.gq_plan.specs.declared.typed.Typed.{Typed}
use Rattle.gq_steps.specs.Given.{given}
use Rattle.gq_steps.specs.Built.{whole_row, HasBuild, FitsBuild, AreBuilds}
use Rattle.gq_steps.specs.Levels.{Run, step_at, built_at, built_of, known, before}
use Rattle.gq_steps.specs.Moves.{IsRun, IsHeld, IsAlike, IsTried}
use Rattle.gq_steps.specs.steps.Outcomes.{with_kept, CanJoin, IsJoined}
use Rattle.gq_plan.specs.Rows.{node_table}
use Rattle.gq_steps.specs.Tries.{tries}
use Rattle.gq_steps.specs.declared.plan_run.Tried.{Tried}
use Rattle.gq_steps.specs.declared.plan_run.Tried.TheVariants.{Past, Missed, Made}
use Rattle.gq_steps.proofs.Binding.{looks, fits_at, given_alike}
use Rattle.gq_steps.proofs.Joining.{length-set_all, get_set_all, has, has_kept, join_here, join_past, join_tries, found, built}
use Rattle.gq_steps.proofs.Stepping.{Makes, is_made, is_past}

-- ---- the build of a depth

pub builds_many : (g : Graph) (y : Typed) (ss : List Step) (os : List (Option Held)) → AreBuilds g y (steps ss) os → length os ≡ length ss
builds_many g y [] [] h = refl
builds_many g y [] (o ∷ os) h = absurd h
builds_many g y (s ∷ ss) [] h = absurd h
builds_many g y (s ∷ ss) (o ∷ os) h = let e = builds_many g y ss os h.1 in omega (arith, e)

pub build_at : (g : Graph) (y : Typed) (ss : List Step) (os : List (Option Held)) (d : ℕ) → AreBuilds g y (steps ss) os → d < length ss → FitsBuild g y (slice_index_or ss d (Keep 0)) (slice_index_or os d None)
build_at g y [] os d h low = absurd (omega arith)
build_at g y (s ∷ ss) [] d h low = absurd h
build_at g y (s ∷ ss) (o ∷ os) zero h low = h.0
build_at g y (s ∷ ss) (o ∷ os) (suc d) h low = build_at g y ss os d h.1 (omega arith)

-- ---- what a plan binds are variables of the alternative

pub record IsLow (y : Typed) (k : Known) : Type 0 where
  pub nodes : (v : ℕ) → k.nodes v ≡ true → v < length y.nodes
  pub rels : (x : ℕ) → k.rels x ≡ true → x < length y.rels

pub low_none : (y : Typed) → IsLow y none
low_none y = record { nodes = λ v e. absurd (true≢false (sym e)); rels = λ x e. absurd (true≢false (sym e)) }

held_in : {X : Type 0} (p : X → Bool) (xs : List X) (i : ℕ) → holds p (slice_get xs i) ≡ true → i < length xs
held_in p xs i h = go (slice_get xs i) refl h
  where
    go : (o : Option _) → slice_get xs i ≡ o → holds p o ≡ true → i < length xs
    go None e h = absurd (true≢false (sym h))
    go (Some x) e h = slice_get_within xs i x e

module _ (catalog : Tables) (y : Typed) where
  low_node : (k : Known) (v : ℕ) → v < length y.nodes → IsLow y k → (w : ℕ) → (nat_eq w v || k.nodes w) ≡ true → w < length y.nodes
  low_node k v low is w h = go (or_cases (nat_eq w v) (k.nodes w) h)
    where
      go : (nat_eq w v ≡ true) ⊎ (k.nodes w ≡ true) → w < length y.nodes
      go (inl e) = subst (λ u. u < length y.nodes) (sym (eqb-true w v e)) low
      go (inr e) = is.nodes w e

  low_rel : (k : Known) (x : ℕ) → x < length y.rels → IsLow y k → (w : ℕ) → (nat_eq w x || k.rels w) ≡ true → w < length y.rels
  low_rel k x low is w h = go (or_cases (nat_eq w x) (k.rels w) h)
    where
      go : (nat_eq w x ≡ true) ⊎ (k.rels w ≡ true) → w < length y.rels
      go (inl e) = subst (λ u. u < length y.rels) (sym (eqb-true w x e)) low
      go (inr e) = is.rels w e

  either_low : (j k : ℕ → Bool) (n : ℕ) → ((v : ℕ) → j v ≡ true → v < n) → ((v : ℕ) → k v ≡ true → v < n) → (v : ℕ) → (j v || k v) ≡ true → v < n
  either_low j k n one two v h = go (or_cases (j v) (k v) h)
    where
      go : (j v ≡ true) ⊎ (k v ≡ true) → v < n
      go (inl e) = one v e
      go (inr e) = two v e

  mutual
    unfolding fits after

    pub low_after : (p : Plan) (k : Known) → fits catalog y p k ≡ true → IsLow y k → IsLow y (after p k)
    low_after Done k fit is = is
    low_after (Then s p) k fit is = let parts = and_parts _ _ fit in low_after p (after_step s k) parts.1 (low_step s k (fits_runs catalog y s k parts.0) is)

    low_step : (s : Step) (k : Known) → runs_step catalog y s k ≡ true → IsLow y k → IsLow y (after_step s k)
    low_step (Scan v) k fit is = record { nodes = low_node k v (ltb-true v (length y.nodes) (and_parts _ _ fit).0) is; rels = is.rels }
    low_step (Extend column x from to way) k fit is =
        let parts = and_parts _ _ fit in
        let ends = and_parts _ _ (and_parts _ _ parts.1).1 in
        record {
          nodes = low_node k to (ltb-true to (length y.nodes) (and_parts _ _ ends.1).0) is;
          rels = low_rel k x (held_in (goes catalog column from to way) y.rels x parts.0) is;
        }
    low_step (Close column x from to way) k fit is = record { nodes = is.nodes; rels = low_rel k x (held_in (goes catalog column from to way) y.rels x (and_parts _ _ fit).0) is }
    low_step (Join side keys) k fit is =
        let own : IsLow y (after side none) = low_after side none (and_parts _ _ fit).0 (low_none y) in
        record {
          nodes = either_low (after side none).nodes k.nodes (length y.nodes) own.nodes is.nodes;
          rels = either_low (after side none).rels k.rels (length y.rels) own.rels is.rels;
        }
    low_step (Keep i) k fit is = is
    low_step (Differ p) k fit is = is
    low_step (NoLoop x) k fit is = is
    low_step (Single x from to way) k fit is = record { nodes = is.nodes; rels = low_rel k x (held_in (goes catalog true from to way) y.rels x (and_parts _ _ fit).0) is }
    low_step (Meet x from to way) k fit is = is

  -- and what runs
  pub low_runs : (p : Plan) (k : Known) → runs catalog y p k ≡ true → IsLow y k → IsLow y (after p k)
  unfolding runs after
  low_runs Done k fit is = is
  low_runs (Then s p) k fit is = let parts = and_parts _ _ fit in low_runs p (after_step s k) parts.1 (low_step s k parts.0 is)

-- ---- places of variables

place_le : (vs : List ℕ) (k d : ℕ) → k < length vs → place_of vs (get_or vs k d) ≤ k
place_le [] k d low = absurd (omega arith)
place_le (v ∷ vs) zero d low = rw (eq-eqb v v refl) (omega arith)
place_le (v ∷ vs) (suc k) d low = go (nat_eq v (get_or vs k d)) (place_le vs k d (omega arith))
  where
    go : (b : Bool) → place_of vs (get_or vs k d) ≤ k → cond b 0 (suc (place_of vs (get_or vs k d))) ≤ suc k
    go true h = omega arith
    go false h = omega (arith, h)

pub places_low : (vs : List ℕ) → All (λ v. place_of vs v < length vs) vs
places_low vs = λ k d low. let h = place_le vs k d low in omega (arith, h, low)

pub filter_low : (p : ℕ → Bool) (n m : ℕ) (vs : List ℕ) → AllByRecursion (λ v. v < m) vs → AllByRecursion (λ v. v < m) (filter p vs)
filter_low p n m [] h = tt
filter_low p n m (v ∷ vs) h = go (p v) (filter_low p n m vs h.1)
  where
    go : (b : Bool) → AllByRecursion (λ v. v < m) (filter p vs) → AllByRecursion (λ v. v < m) (cond b (v ∷ filter p vs) (filter p vs))
    go true more = (h.0, more)
    go false more = more

pub range_low : (a n m : ℕ) → a + n ≤ m → AllByRecursion (λ v. v < m) (range_with_len a n)
range_low a zero m h = tt
range_low a (suc n) m h = (omega arith, range_low (a + 1) n m (omega arith))

pub kept_low : (p : ℕ → Bool) (n : ℕ) → All (λ v. v < n) (filter p (range_with_len 0 n))
kept_low p n = All-from_recursion (λ v. v < n) (filter p (range_with_len 0 n)) (filter_low p n n (range_with_len 0 n) (range_low 0 n n (omega arith)))

all_keys : (j k : ℕ → Bool) (n : ℕ) (keys : List ℕ) → ((v : ℕ) → k v ≡ true → v < n) → list_all (λ v. j v && k v) keys ≡ true → AllByRecursion (λ v. v < n) keys
all_keys j k n [] low h = tt
all_keys j k n (v ∷ keys) low h = let parts = and_parts (j v && k v) (list_all (λ v. j v && k v) keys) h in (low v (and_parts (j v) (k v) parts.0).1, all_keys j k n keys low parts.1)

-- ---- matches

pub all_pass : (p : ℕ → Bool) (xs : List ℕ) → AllByRecursion (λ x. p x ≡ true) (filter p xs)
all_pass p [] = tt
all_pass p (x ∷ xs) = go (p x) refl (all_pass p xs)
  where
    go : (b : Bool) → p x ≡ b → AllByRecursion (λ x. p x ≡ true) (filter p xs) → AllByRecursion (λ x. p x ≡ true) (cond b (x ∷ filter p xs) (filter p xs))
    go true e more = (e, more)
    go false e more = more

pub found_all : (P : ℕ → Type 0) (xs : List ℕ) (place i : ℕ) → AllByRecursion P xs → slice_get xs place ≡ Some i → P i
found_all P xs place i h e = subst P (get_or_from_slice_get xs place i 0 e) (All-from_recursion P xs h place 0 (slice_get_within xs place i e))

pub in_range : (p : ℕ → Bool) (a n v : ℕ) → list_all p (range_with_len a n) ≡ true → a ≤ v → v < a + n → p v ≡ true
in_range p a zero v h low high = absurd (omega arith)
in_range p a (suc n) v h low high = go (cases_eq a v) (λ more. in_range p (a + 1) n v parts.1 more (omega arith))
  where
    parts : (p a ≡ true) × (list_all p (range_with_len (a + 1) n) ≡ true)
    parts = and_parts (p a) (list_all p (range_with_len (a + 1) n)) h

    go : (a ≡ v) ⊎ (a ≡ v → ⊥) → (a + 1 ≤ v → p v ≡ true) → p v ≡ true
    go (inl e) more = ap p (sym e) ∙ parts.0
    go (inr e) more = more (omega (arith, e))

pub is_shared : (a b s : Bool) → a ≡ true → b ≡ true → (not (a && b) || s) ≡ true → s ≡ true
is_shared true true s e f h = h
is_shared true false s e f h = absurd (true≢false (sym f))
is_shared false b s e f h = absurd (true≢false (sym e))

-- a row with a key has its number at each variable of the key
pub key_value : (h : Held) (old : Assignment) (i : ℕ) (vs : List ℕ) (v : ℕ) → has_key (map (node_in h) vs) (map (slice_index old.nodes) vs) i ≡ true → has_number vs v ≡ true → node_in h v i ≡ slice_index old.nodes v
key_value h old i [] v e found = absurd (true≢false (sym found))
key_value h old i (w ∷ vs) v e found = go (or_cases (nat_eq v w) (has_number vs v) found) (λ more. key_value h old i vs v parts.1 more)
  where
    parts : (nat_eq (node_in h w i) (slice_index old.nodes w) ≡ true) × (has_key (map (node_in h) vs) (map (slice_index old.nodes) vs) i ≡ true)
    parts = and_parts _ _ e

    go : (nat_eq v w ≡ true) ⊎ (has_number vs v ≡ true) → (has_number vs v ≡ true → node_in h v i ≡ slice_index old.nodes v) → node_in h v i ≡ slice_index old.nodes v
    go (inl same) more = let is : w ≡ v = sym (eqb-true v w same) in subst (λ u. node_in h u i ≡ slice_index old.nodes u) is (eqb-true (node_in h w i) (slice_index old.nodes w) parts.0)
    go (inr there) more = more there

module _ (c : Run) (run : IsRun c) (d : ℕ) (low : d < length c.steps) (old : Assignment) (held : IsHeld c old (known c d)) (side : Plan) (keys : List ℕ) (is : step_at c d ≡ Join side keys) where
  abbrev y : Typed
  y = c.typed

  pub build : HasBuild c.graph y side keys (slice_index_or c.builds d None)
  build = subst (λ s. FitsBuild c.graph y s (slice_index_or c.builds d None)) is (build_at c.graph y c.steps c.builds d run.builds low)

  abbrev pub h : Held
  h = build.build

  abbrev k : Known
  k = known c d

  -- the build's rows
  abbrev own_rows : List Partial
  own_rows = built c.graph y side h old k (before c old d) (looks c run old d)

  rows_are : built_at c d ≡ own_rows
  rows_are = ap (λ s. built_of y s (slice_index_or c.builds d None)) is ∙ ap (built_of y (Join side keys)) build.there

  join_fits : (fits c.graph.catalog y side none ≡ true) × (is_joined y keys (after side none) k ≡ true)
  unfolding fits
  join_fits = and_parts _ _ (ap (λ s. runs_step c.graph.catalog y s k) (sym is) ∙ fits_at c run d low)

  own : IsLow y (after side none)
  own = low_after c.graph.catalog y side none join_fits.0 (low_none y)

  shared : list_all (λ v. (after side none).nodes v && k.nodes v) keys ≡ true
  shared = (and_parts _ _ join_fits.1).0

  keys_low : AllByRecursion (λ v. v < length y.nodes) keys
  keys_low = all_keys (after side none).nodes k.nodes (length y.nodes) keys held.nodes shared

  pub can_join : CanJoin h old
  can_join = record {
    keys = rw (held.node_count, build.is.key_list) (All-from_recursion (λ v. v < length y.nodes) keys keys_low);
    nodes = rw (held.node_count, build.is.nodes) (kept_low (after side none).nodes (length y.nodes));
    rels = rw (held.rel_count, build.is.rels) (kept_low (after side none).rels (length y.rels));
    node_places = places_low h.nodes;
    rel_places = places_low h.rels;
  }

  -- ---- what is written

  module _ (i : ℕ) (new : Assignment) (written : new ≡ with_kept h i old) where
    new_node : (v : ℕ) → v < length y.nodes → slice_index new.nodes v ≡ cond ((after side none).nodes v) (node_in h v i) (slice_index old.nodes v)
    new_node v inside =
        ap (λ (t : Assignment). slice_index t.nodes v) written
        ∙ get_set_all h.nodes (λ v. node_in h v i) old.nodes v (rw held.node_count inside)
        ∙ ap (λ b. cond b (node_in h v i) (slice_index old.nodes v)) (ap (λ l. has l v) build.is.nodes ∙ has_kept (after side none).nodes (length y.nodes) v inside)

    new_rel : (x : ℕ) → x < length y.rels → slice_index new.rels x ≡ cond ((after side none).rels x) (rel_in h x i) (slice_index old.rels x)
    new_rel x inside =
        ap (λ (t : Assignment). slice_index t.rels x) written
        ∙ get_set_all h.rels (λ x. rel_in h x i) old.rels x (rw held.rel_count inside)
        ∙ ap (λ b. cond b (rel_in h x i) (slice_index old.rels x)) (ap (λ l. has l x) build.is.rels ∙ has_kept (after side none).rels (length y.rels) x inside)

    -- the row of the build is written where the side plan binds
    row_alike : IsAlike (after side none) (whole_row y h i) new
    row_alike = record {
      nodes = λ v e. (let inside : v < length y.nodes = own.nodes v e in
          new_node v inside ∙ ap (λ b. cond b (node_in h v i) (slice_index old.nodes v)) e ∙ sym (get_or-map-range_with_len (λ v. node_in h v i) 0 (length y.nodes) v v 0 inside (omega arith)));
      rels = λ x e. (let inside : x < length y.rels = own.rels x e in
          new_rel x inside ∙ ap (λ b. cond b (rel_in h x i) (slice_index old.rels x)) e ∙ sym (get_or-map-range_with_len (λ x. rel_in h x i) 0 (length y.rels) x x 0 inside (omega arith)));
    }

    module _ (place : ℕ) (match : slice_get (matches_of h old) place ≡ Some i) where
      same_key : has_key (map (node_in h) keys) (map (slice_index old.nodes) keys) i ≡ true
      same_key =
          let passes : has_key (columns h) (map (slice_index old.nodes) h.keys) i ≡ true =
          found_all (λ j. has_key (columns h) (map (slice_index old.nodes) h.keys) j ≡ true) (matches_of h old) place i (all_pass (has_key (columns h) (map (slice_index old.nodes) h.keys)) (range_with_len 0 (length h.rows))) match in
          subst (λ ks. has_key (map (node_in h) ks) (map (slice_index old.nodes) ks) i ≡ true) build.is.key_list passes

      row_low : i < length h.rows
      row_low = found_all (λ j. j < length h.rows) (matches_of h old) place i (filter_low (has_key (columns h) (map (slice_index old.nodes) h.keys)) 0 (length h.rows) (range_with_len 0 (length h.rows)) (range_low 0 (length h.rows) (length h.rows) (omega arith))) match

      -- what was bound before is not changed
      old_alike : IsAlike k old new
      old_alike = record {
        nodes = λ v e. new_node v (held.nodes v e) ∙ node_same v e ((after side none).nodes v) refl;
        rels = λ x e. new_rel x (held.rels x e) ∙ ap (λ b. cond b (rel_in h x i) (slice_index old.rels x)) (rel_apart x e ((after side none).rels x) refl);
      }
        where
          joined : (list_all (λ v. not ((after side none).nodes v && k.nodes v) || has_number keys v) (range_with_len 0 (length y.nodes)) ≡ true) × (list_all (λ x. not ((after side none).rels x && k.rels x)) (range_with_len 0 (length y.rels)) ≡ true)
          joined = and_parts (list_all (λ v. not ((after side none).nodes v && k.nodes v) || has_number keys v) (range_with_len 0 (length y.nodes))) (list_all (λ x. not ((after side none).rels x && k.rels x)) (range_with_len 0 (length y.rels)))
              (and_parts (list_all (λ v. (after side none).nodes v && k.nodes v) keys) (list_all (λ v. not ((after side none).nodes v && k.nodes v) || has_number keys v) (range_with_len 0 (length y.nodes)) && list_all (λ x. not ((after side none).rels x && k.rels x)) (range_with_len 0 (length y.rels))) join_fits.1).1

          node_same : (v : ℕ) → k.nodes v ≡ true → (b : Bool) → (after side none).nodes v ≡ b → cond b (node_in h v i) (slice_index old.nodes v) ≡ slice_index old.nodes v
          node_same v e true own_too =
              let shared_key : (not ((after side none).nodes v && k.nodes v) || has_number keys v) ≡ true = in_range (λ v. not ((after side none).nodes v && k.nodes v) || has_number keys v) 0 (length y.nodes) v joined.0 (omega arith) (let inside = held.nodes v e in omega (arith, inside)) in
              key_value h old i keys v same_key (is_shared ((after side none).nodes v) (k.nodes v) (has_number keys v) own_too e shared_key)
          node_same v e false apart = refl

          rel_apart : (x : ℕ) → k.rels x ≡ true → (b : Bool) → (after side none).rels x ≡ b → b ≡ false
          rel_apart x e true own_too =
              let none_shared : not ((after side none).rels x && k.rels x) ≡ true = in_range (λ x. not ((after side none).rels x && k.rels x)) 0 (length y.rels) x joined.1 (omega arith) (let inside = held.rels x e in omega (arith, inside)) in
              absurd (true≢false (sym none_shared ∙ ap₂ (λ a b. not (a && b)) own_too e))
          rel_apart x e false apart = refl

      new_held : IsHeld c new (with_both (after side none) k)
      new_held = record {
        node_count = ap (λ (t : Assignment). length t.nodes) written ∙ length-set_all h.nodes (λ v. node_in h v i) old.nodes ∙ held.node_count;
        rel_count = ap (λ (t : Assignment). length t.rels) written ∙ length-set_all h.rels (λ x. rel_in h x i) old.rels ∙ held.rel_count;
        nodes = either_low c.graph.catalog y (after side none).nodes k.nodes (length y.nodes) own.nodes held.nodes;
        rels = either_low c.graph.catalog y (after side none).rels k.rels (length y.rels) own.rels held.rels;
        rows = λ v e. row_inside v e ((after side none).nodes v) refl;
      }
        where
          row_inside : (v : ℕ) → ((after side none).nodes v || k.nodes v) ≡ true → (b : Bool) → (after side none).nodes v ≡ b → slice_index new.nodes v < row_count c.graph.nodes (node_table y v)
          row_inside v e true own_too =
              let inside : v < length y.nodes = own.nodes v own_too in
              subst (λ n. n < row_count c.graph.nodes (node_table y v)) (sym (new_node v inside ∙ ap (λ b. cond b (node_in h v i) (slice_index old.nodes v)) own_too)) (build.is.inside i v row_low own_too)
          row_inside v e false apart =
              let bound : k.nodes v ≡ true = ap (λ b. b || k.nodes v) (sym apart) ∙ e in
              subst (λ n. n < row_count c.graph.nodes (node_table y v)) (sym (new_node v (held.nodes v bound) ∙ ap (λ b. cond b (node_in h v i) (slice_index old.nodes v)) apart)) (held.rows v bound)

      makes : Makes c (built_at c d) (Join side keys) k (before c old d) place old new
      unfolding after
      makes = record {
        held = new_held;
        alike = old_alike;
        made = subst (λ (r : List Partial). drop place (tries c.graph c.typed r (Join side keys) (before c old d)) ≡ (with_all (given y new side nothing) (before c old d) ∷ []) ∷ drop (place + 1) (tries c.graph c.typed r (Join side keys) (before c old d))) (sym rows_are)
            (join_here c.graph y side h old k (before c old d) (looks c run old d) keys build.is shared keys_low place i match
            ∙ ap (λ b. (with_all b (before c old d) ∷ []) ∷ drop (place + 1) (tries c.graph c.typed own_rows (Join side keys) (before c old d))) (sym (given_alike y (whole_row y h i) new side none nothing row_alike)));
      }

  -- as many places as matches
  pub join_count : length (tries c.graph y (built_at c d) (step_at c d) (before c old d)) ≡ length (matches_of h old)
  join_count =
      ap (λ s. length (tries c.graph y (built_at c d) s (before c old d))) is
      ∙ ap (λ (r : List Partial). length (tries c.graph y r (Join side keys) (before c old d))) rows_are
      ∙ ap length (join_tries c.graph y side h old k (before c old d) (looks c run old d) keys build.is shared keys_low)
      ∙ length-map (matches_of h old) (found c.graph y side h old k (before c old d) (looks c run old d))

  pub join_tried : (place : ℕ) (new : Assignment) (told : Tried) → IsJoined h place old new told → IsTried c d place old new told
  join_tried place new Past m = is_past c d (Join side keys) is place old new m.0 (subst (λ (r : List Partial). drop place (tries c.graph y r (Join side keys) (before c old d)) ≡ []) (sym rows_are) (join_past c.graph y side h old k (before c old d) (looks c run old d) keys build.is shared keys_low place m.1))
  join_tried place new Missed m = absurd m
  join_tried place new Made m = is_made c d (Join side keys) is place old new (makes m.row new m.written place m.is) m.few

  -- the build that the program has at the depth
  pub there : (x : Option Held) (b : Held) → d < length c.builds → slice_index_or c.builds d x ≡ Some b → h ≡ b
  there x b inside e = let both : Some h ≡ Some b = sym build.there ∙ get_or_default c.builds d None x inside ∙ e in cc both

  pub not_none : (x : Option Held) → d < length c.builds → slice_index_or c.builds d x ≡ None → ⊥
  not_none x inside e = let both : Some h ≡ None = sym build.there ∙ get_or_default c.builds d None x inside ∙ e in cc both
