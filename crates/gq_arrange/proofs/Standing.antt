-- In which group each variable of a plan that fits stands: as the step puts it that binds it, and in no later group than its number.
use Rattle.std.proofs.Common.{◌≡◌, ◌∙◌, ◌<◌, ◌≤◌, ◌+◌, ap, sym, refl, ℕ, Bool, true, false, not, cond, ◌&&◌, ◌||◌, List, length, slice_get, nat_eq, nat_lt, arith, true≢false}
use Rattle.std.specs.List.{list_all, range_with_len}
use Rattle.std.proofs.lemmas.Bool.{and_parts, eqb-true, eq-eqb, not-true}
use Rattle.gq_base.specs.Catalogs.{Tables}
use Rattle.gq_base.specs.declared.direction.Direction.{Direction}
use Rattle.gq_law_groups.proofs.Following.{known_node, known_rel}
use Rattle.gq_plan.proofs.Permuted.{range_all}
use Rattle.gq_plan.proofs.Placing.{none_low, after_low}
use Rattle.gq_plan.specs.Covers.{after, after_step, fits, fits_step, goes, is_new, is_joined}
use Rattle.gq_plan.specs.Halves.{runs_step, runs}
use Rattle.gq_plan.specs.Known.{Known, none}
use Rattle.gq_plan.specs.Meaning.{holds}
use Rattle.gq_plan.specs.Plans.{Plan, Done, Then, Step, Scan, Extend, Close, Join, Keep, Differ, NoLoop, Single, Meet}
use Rattle.gq_plan.specs.Shapes.{Places, put, place_step, places_after}
use Rattle.gq_plan.specs.Soundness.{has_number}
use Rattle.gq_plan.specs.declared.typed.Typed.{Typed}
use Rattle.gq_law_groups.proofs.Ordered.{key_known}

-- what is known is not what is new
put_kept : (has : ℕ → Bool) (u v g : ℕ) (old : ℕ → ℕ) → has u ≡ false → has v ≡ true → put u g old v ≡ old v
put_kept has u v g old new known = go (nat_eq v u) refl
  where
    go : (c : Bool) → nat_eq v u ≡ c → cond c g (old v) ≡ old v
    go true e = absurd (true≢false (sym known ∙ ap has (eqb-true v u e) ∙ new))
    go false e = refl

pub put_own : (u g : ℕ) (old : ℕ → ℕ) → put u g old u ≡ g
put_own u g old = ap (λ c. cond c g (old u)) (eq-eqb u u refl)

pub put_at : (u v g : ℕ) (old : ℕ → ℕ) → nat_eq v u ≡ true → put u g old v ≡ g
put_at u v g old e = ap (λ c. cond c g (old v)) e

in_range : (p : ℕ → Bool) (n : ℕ) → list_all p (range_with_len 0 n) ≡ true → (v : ℕ) → v < n → p v ≡ true
in_range p n h v low = let e : 0 + v ≡ v = omega arith in ap p (sym e) ∙ range_all p 0 n h v low

module _ (catalog : Tables) (y : Typed) where
  new_node : (u : ℕ) (k : Known) → is_new y k u ≡ true → k.nodes u ≡ false
  new_node u k h = not-true (k.nodes u) (and_parts (nat_lt u (length y.nodes)) (not (k.nodes u)) h).1

  pub record IsExtend (x from to : ℕ) (k : Known) : Type 0 where
    pub rel_new : k.rels x ≡ false
    pub from_known : k.nodes from ≡ true
    pub to_new : k.nodes to ≡ false

  pub extend_parts : (column : Bool) (x from to : ℕ) (way : Direction) (k : Known) → runs_step catalog y (Extend column x from to way) k ≡ true → IsExtend x from to k
  unfolding fits_step
  extend_parts column x from to way k h =
      let a = and_parts (holds (goes catalog column from to way) (slice_get y.rels x)) (not (k.rels x) && (k.nodes from && is_new y k to)) h in
      let b = and_parts (not (k.rels x)) (k.nodes from && is_new y k to) a.1 in
      let c = and_parts (k.nodes from) (is_new y k to) b.1 in
      record { rel_new = not-true (k.rels x) b.0; from_known = c.0; to_new = new_node to k c.1 }

  pub record IsClose (x from to : ℕ) (k : Known) : Type 0 where
    pub rel_new : k.rels x ≡ false
    pub from_known : k.nodes from ≡ true
    pub to_known : k.nodes to ≡ true

  pub close_parts : (column : Bool) (x from to : ℕ) (way : Direction) (k : Known) → runs_step catalog y (Close column x from to way) k ≡ true → IsClose x from to k
  unfolding fits_step
  close_parts column x from to way k h =
      let a = and_parts (holds (goes catalog column from to way) (slice_get y.rels x)) (not (k.rels x) && (k.nodes from && k.nodes to)) h in
      let b = and_parts (not (k.rels x)) (k.nodes from && k.nodes to) a.1 in
      let c = and_parts (k.nodes from) (k.nodes to) b.1 in
      record { rel_new = not-true (k.rels x) b.0; from_known = c.0; to_known = c.1 }

  pub record IsSingle (x from : ℕ) (k : Known) : Type 0 where
    pub rel_new : k.rels x ≡ false
    pub from_known : k.nodes from ≡ true

  pub single_parts : (x from to : ℕ) (way : Direction) (k : Known) → runs_step catalog y (Single x from to way) k ≡ true → IsSingle x from k
  single_parts x from to way k h =
      let a = and_parts (holds (goes catalog true from to way) (slice_get y.rels x)) (not (k.rels x) && k.nodes from) h in
      let b = and_parts (not (k.rels x)) (k.nodes from) a.1 in
      record { rel_new = not-true (k.rels x) b.0; from_known = b.1 }

  pub record IsMeet (from to : ℕ) (k : Known) : Type 0 where
    pub from_known : k.nodes from ≡ true
    pub to_known : k.nodes to ≡ true

  pub meet_parts : (x from to : ℕ) (way : Direction) (k : Known) → runs_step catalog y (Meet x from to way) k ≡ true → IsMeet from to k
  meet_parts x from to way k h =
      let a = and_parts (holds (goes catalog true from to way) (slice_get y.rels x)) (k.nodes from && k.nodes to) h in
      let b = and_parts (k.nodes from) (k.nodes to) a.1 in
      record { from_known = b.0; to_known = b.1 }

  both : (a b c : Bool) → (not (a && b) || c) ≡ true → a ≡ true → b ≡ true → c ≡ true
  both true true c h i j = h
  both true false c h i j = absurd (true≢false (sym j))
  both false b c h i j = absurd (true≢false (sym i))

  neither : (a b : Bool) → not (a && b) ≡ true → a ≡ true → b ≡ true → ⊥
  neither true true h i j = true≢false (sym h)
  neither true false h i j = true≢false (sym j)
  neither false b h i j = true≢false (sym i)

  -- what a side plan binds that is known is a key, and no relationship is
  shared_key : (side : Plan) (keys : List ℕ) (k : Known) → runs_step catalog y (Join side keys) k ≡ true → (v : ℕ) → (after side none).nodes v ≡ true → k.nodes v ≡ true → has_number keys v ≡ true
  unfolding fits_step
  shared_key side keys k h v own_v known_v =
      let a = and_parts (fits catalog y side none) (is_joined y keys (after side none) k) h in
      let b = and_parts (list_all (λ u. (after side none).nodes u && k.nodes u) keys) _ a.1 in
      let c = and_parts (list_all (λ u. not ((after side none).nodes u && k.nodes u) || has_number keys u) (range_with_len 0 (length y.nodes))) _ b.1 in
      let low = (after_low catalog y side none a.0 (none_low catalog y)).nodes v own_v in
      both ((after side none).nodes v) (k.nodes v) (has_number keys v) (in_range (λ u. not ((after side none).nodes u && k.nodes u) || has_number keys u) (length y.nodes) c.0 v low) own_v known_v

  shared_rel : (side : Plan) (keys : List ℕ) (k : Known) → runs_step catalog y (Join side keys) k ≡ true → (x : ℕ) → (after side none).rels x ≡ true → k.rels x ≡ true → ⊥
  unfolding fits_step
  shared_rel side keys k h x own_x known_x =
      let a = and_parts (fits catalog y side none) (is_joined y keys (after side none) k) h in
      let b = and_parts (list_all (λ u. (after side none).nodes u && k.nodes u) keys) _ a.1 in
      let c = and_parts (list_all (λ u. not ((after side none).nodes u && k.nodes u) || has_number keys u) (range_with_len 0 (length y.nodes))) _ b.1 in
      let low = (after_low catalog y side none a.0 (none_low catalog y)).rels x own_x in
      neither ((after side none).rels x) (k.rels x) (in_range (λ u. not ((after side none).rels u && k.rels u)) (length y.rels) c.1 x low) own_x known_x

  pub keys_known : (side : Plan) (keys : List ℕ) (k : Known) → runs_step catalog y (Join side keys) k ≡ true → (v : ℕ) → has_number keys v ≡ true → k.nodes v ≡ true
  unfolding fits_step
  keys_known side keys k h v =
      let a = and_parts (fits catalog y side none) (is_joined y keys (after side none) k) h in
      key_known (λ u. (after side none).nodes u) (λ u. k.nodes u) v keys (and_parts (list_all (λ u. (after side none).nodes u && k.nodes u) keys) _ a.1).0

  -- a step leaves what is known in its group
  node_kept : (s : Step) (k : Known) (q : Places) → runs_step catalog y s k ≡ true → (v : ℕ) → k.nodes v ≡ true → (place_step s q).nodes v ≡ q.nodes v
  unfolding fits_step place_step
  node_kept (Scan u) k q fit v e = put_kept k.nodes u v q.count q.nodes (new_node u k fit) e
  node_kept (Extend true x from to way) k q fit v e = put_kept k.nodes to v (q.nodes from) q.nodes (extend_parts true x from to way k fit).to_new e
  node_kept (Extend false x from to way) k q fit v e = put_kept k.nodes to v q.count q.nodes (extend_parts false x from to way k fit).to_new e
  node_kept (Close true x from to way) k q fit v e = refl
  node_kept (Close false x from to way) k q fit v e = refl
  node_kept (Join side keys) k q fit v e = go ((after side none).nodes v) (has_number keys v) refl (λ own_v. shared_key side keys k fit v own_v e)
    where
      go : (a b : Bool) → (after side none).nodes v ≡ a → ((after side none).nodes v ≡ true → b ≡ true) → cond (a && not b) q.count (q.nodes v) ≡ q.nodes v
      go true true i h = refl
      go true false i h = absurd (true≢false (sym (h i)))
      go false b i h = refl
  node_kept (Keep i) k q fit v e = refl
  node_kept (Differ p) k q fit v e = refl
  node_kept (NoLoop x) k q fit v e = refl
  node_kept (Single x from to way) k q fit v e = refl
  node_kept (Meet x from to way) k q fit v e = refl

  rel_kept : (s : Step) (k : Known) (q : Places) → runs_step catalog y s k ≡ true → (x : ℕ) → k.rels x ≡ true → (place_step s q).rels x ≡ q.rels x
  unfolding fits_step place_step
  rel_kept (Scan u) k q fit x e = refl
  rel_kept (Extend true z from to way) k q fit x e = put_kept k.rels z x (q.nodes from) q.rels (extend_parts true z from to way k fit).rel_new e
  rel_kept (Extend false z from to way) k q fit x e = put_kept k.rels z x q.count q.rels (extend_parts false z from to way k fit).rel_new e
  rel_kept (Close true z from to way) k q fit x e = put_kept k.rels z x (q.nodes from) q.rels (close_parts true z from to way k fit).rel_new e
  rel_kept (Close false z from to way) k q fit x e = put_kept k.rels z x q.count q.rels (close_parts false z from to way k fit).rel_new e
  rel_kept (Join side keys) k q fit x e = go ((after side none).rels x) refl
    where
      go : (a : Bool) → (after side none).rels x ≡ a → cond a q.count (q.rels x) ≡ q.rels x
      go true i = absurd (shared_rel side keys k fit x i e)
      go false i = refl
  rel_kept (Keep i) k q fit x e = refl
  rel_kept (Differ p) k q fit x e = refl
  rel_kept (NoLoop z) k q fit x e = refl
  rel_kept (Single z from to way) k q fit x e = put_kept k.rels z x (q.nodes from) q.rels (single_parts z from to way k fit).rel_new e
  rel_kept (Meet z from to way) k q fit x e = refl

  -- so do all steps that follow
  pub node_stable : (p : Plan) (k : Known) (q : Places) → runs catalog y p k ≡ true → (v : ℕ) → k.nodes v ≡ true → (places_after p q).nodes v ≡ q.nodes v
  unfolding runs places_after
  node_stable Done k q fit v e = refl
  node_stable (Then s p) k q fit v e =
      let parts = and_parts (runs_step catalog y s k) (runs catalog y p (after_step s k)) fit in
      node_stable p (after_step s k) (place_step s q) parts.1 v (known_node s k v e) ∙ node_kept s k q parts.0 v e

  pub rel_stable : (p : Plan) (k : Known) (q : Places) → runs catalog y p k ≡ true → (x : ℕ) → k.rels x ≡ true → (places_after p q).rels x ≡ q.rels x
  unfolding runs places_after
  rel_stable Done k q fit x e = refl
  rel_stable (Then s p) k q fit x e =
      let parts = and_parts (runs_step catalog y s k) (runs catalog y p (after_step s k)) fit in
      rel_stable p (after_step s k) (place_step s q) parts.1 x (known_rel s k x e) ∙ rel_kept s k q parts.0 x e

  -- what is known stands in a group that has been made
  pub record IsMade (k : Known) (q : Places) : Type 0 where
    pub nodes : (v : ℕ) → k.nodes v ≡ true → q.nodes v < q.count
    pub rels : (x : ℕ) → k.rels x ≡ true → q.rels x < q.count

  put_low : (has : ℕ → Bool) (u g n m : ℕ) (old : ℕ → ℕ) → n ≤ m → g < m → ((v : ℕ) → has v ≡ true → old v < n) → (v : ℕ) → (nat_eq v u || has v) ≡ true → put u g old v < m
  put_low has u g n m old grows low h v e = go (nat_eq v u) e
    where
      go : (c : Bool) → (c || has v) ≡ true → cond c g (old v) < m
      go true e = low
      go false e = (let l = h v e in omega arith)

  pub made_step : (s : Step) (k : Known) (q : Places) → runs_step catalog y s k ≡ true → IsMade k q → IsMade (after_step s k) (place_step s q)
  unfolding fits_step after_step place_step
  made_step (Scan u) k q fit made = record {
    nodes = put_low k.nodes u q.count q.count (q.count + 1) q.nodes (omega arith) (omega arith) made.nodes;
    rels = λ x e. (let l = made.rels x e in omega arith);
  }
  made_step (Extend true x from to way) k q fit made =
      let parts = extend_parts true x from to way k fit in
      let low = made.nodes from parts.from_known in
      record { nodes = put_low k.nodes to (q.nodes from) q.count q.count q.nodes (omega arith) low made.nodes; rels = put_low k.rels x (q.nodes from) q.count q.count q.rels (omega arith) low made.rels }
  made_step (Extend false x from to way) k q fit made = record {
    nodes = put_low k.nodes to q.count q.count (q.count + 1) q.nodes (omega arith) (omega arith) made.nodes;
    rels = put_low k.rels x q.count q.count (q.count + 1) q.rels (omega arith) (omega arith) made.rels;
  }
  made_step (Close true x from to way) k q fit made =
      let parts = close_parts true x from to way k fit in
      record { nodes = made.nodes; rels = put_low k.rels x (q.nodes from) q.count q.count q.rels (omega arith) (made.nodes from parts.from_known) made.rels }
  made_step (Close false x from to way) k q fit made = record {
    nodes = λ v e. (let l = made.nodes v e in omega arith);
    rels = put_low k.rels x q.count q.count (q.count + 1) q.rels (omega arith) (omega arith) made.rels;
  }
  made_step (Join side keys) k q fit made = record {
    nodes = λ v e. go ((after side none).nodes v) (has_number keys v) (k.nodes v) e (made.nodes v) (keys_known side keys k fit v);
    rels = λ x e. on ((after side none).rels x) (k.rels x) e (made.rels x);
  }
    where
      go : {v : ℕ} (a b c : Bool) → (a || c) ≡ true → (c ≡ true → q.nodes v < q.count) → (b ≡ true → c ≡ true) → cond (a && not b) q.count (q.nodes v) < q.count + 1
      go true false c e h f = omega arith
      go true true c e h f = (let l = h (f refl) in omega arith)
      go false b c e h f = (let l = h e in omega arith)

      on : {x : ℕ} (a c : Bool) → (a || c) ≡ true → (c ≡ true → q.rels x < q.count) → cond a q.count (q.rels x) < q.count + 1
      on true c e h = omega arith
      on false c e h = (let l = h e in omega arith)
  made_step (Keep i) k q fit made = made
  made_step (Differ p) k q fit made = made
  made_step (NoLoop x) k q fit made = made
  made_step (Single x from to way) k q fit made =
      let parts = single_parts x from to way k fit in
      record { nodes = made.nodes; rels = put_low k.rels x (q.nodes from) q.count q.count q.rels (omega arith) (made.nodes from parts.from_known) made.rels }
  made_step (Meet x from to way) k q fit made = made

  -- ---- where a step stands, and what it binds

  module _ (s : Step) (p : Plan) (k : Known) (q : Places) (fit : runs catalog y (Then s p) k ≡ true) where
    abbrev final : Places
    final = places_after p (place_step s q)

    parts : (runs_step catalog y s k ≡ true) × (runs catalog y p (after_step s k) ≡ true)
    unfolding runs
    parts = and_parts (runs_step catalog y s k) (runs catalog y p (after_step s k)) fit

    -- what is known stands where it stood
    pub old_node : (v : ℕ) → k.nodes v ≡ true → final.nodes v ≡ q.nodes v
    old_node v e = node_stable p (after_step s k) (place_step s q) parts.1 v (known_node s k v e) ∙ node_kept s k q parts.0 v e

    pub old_rel : (x : ℕ) → k.rels x ≡ true → final.rels x ≡ q.rels x
    old_rel x e = rel_stable p (after_step s k) (place_step s q) parts.1 x (known_rel s k x e) ∙ rel_kept s k q parts.0 x e

    -- what the step binds stands where the step puts it
    pub new_node_at : (v : ℕ) → (after_step s k).nodes v ≡ true → final.nodes v ≡ (place_step s q).nodes v
    new_node_at v e = node_stable p (after_step s k) (place_step s q) parts.1 v e

    pub new_rel_at : (x : ℕ) → (after_step s k).rels x ≡ true → final.rels x ≡ (place_step s q).rels x
    new_rel_at x e = rel_stable p (after_step s k) (place_step s q) parts.1 x e
