-- The group of each step of a plan that fits: what the step binds stands in it, and what a test reads stands in no later one.
use Rattle.std.proofs.Common.{◌≡◌, ◌∙◌, ◌<◌, ◌≤◌, ◌⊎◌, inl, inr, ap, ap₂, sym, refl, ℕ, Bool, true, false, not, cond, ◌&&◌, ◌||◌, Option, Some, None, List, [], ◌∷◌, map, slice_get, nat_eq, subst, arith, true≢false}
use Rattle.std.specs.List.{AllByRecursion, list_all}
use Rattle.std.proofs.lemmas.Bool.{and_parts, eq-eqb, or_left}
use Rattle.gq_base.specs.Catalogs.{Tables}
use Rattle.gq_law_groups.specs.Groups.{makes_group}
use Rattle.gq_law_groups.specs.Order.{BindsAt, StandsAt}
use Rattle.gq_law_groups.proofs.Ordered.{Reads, low_from, unmapped}
use Rattle.gq_law_groups.proofs.Swapped.{own, adds}
use Rattle.gq_plan.proofs.Halved.{is_half}
use Rattle.gq_plan.specs.Arranged.{home}
use Rattle.gq_plan.specs.Covers.{after, after_step, fits_step, test_bound, pair_bound, loop_bound}
use Rattle.gq_plan.specs.Halves.{runs_step, runs}
use Rattle.gq_plan.specs.Known.{Known, none, is_bound}
use Rattle.gq_plan.specs.Meaning.{holds}
use Rattle.gq_plan.specs.Plans.{Plan, Then, Step, Scan, Extend, Close, Join, Keep, Differ, NoLoop, Single, Meet}
use Rattle.gq_plan.specs.Reads.{Read, reads}
use Rattle.gq_plan.specs.Shapes.{Places, place_step, places_after, group_of, test_groups, pair_groups, end_groups, tested, last_of}
use Rattle.gq_plan.specs.Soundness.{has_number}
use Rattle.gq_plan.specs.declared.bound.NamedExpr.{NamedExpr}
use Rattle.gq_plan.specs.declared.typed.RelPair.{RelPair}
use Rattle.gq_plan.specs.declared.typed.Typed.{Typed}
use Rattle.gq_plan.specs.declared.typed.TypedRel.{TypedRel}
use Rattle.gq_plan.specs.declared.variable.Variable.TheVariants.{Node as node, Rel as rel}
use Rattle.gq_plan.specs.declared.variable.Variable.{Variable}
use Rattle.gq_arrange.proofs.Standing.{extend_parts, close_parts, single_parts, meet_parts, keys_known, put_at, put_own, IsMade, old_node, old_rel, new_node_at, new_rel_at}

one : (b : Bool) → (b || false) ≡ true → b ≡ true
one true e = refl
one false e = e

pub own_node : (s : Step) (k : Known) (v : ℕ) → (own s).nodes v ≡ true → (after_step s k).nodes v ≡ true
own_node s k v e = ap (λ (m : Known). m.nodes v) (adds s k) ∙ or_left ((own s).nodes v) (k.nodes v) e

pub own_rel : (s : Step) (k : Known) (x : ℕ) → (own s).rels x ≡ true → (after_step s k).rels x ≡ true
own_rel s k x e = ap (λ (m : Known). m.rels x) (adds s k) ∙ or_left ((own s).rels x) (k.rels x) e

-- the latest of groups that are all below a number is below it
last_low : (c : ℕ) → 0 < c → (js : List ℕ) → AllByRecursion (λ j. j < c) js → last_of js < c
last_low c some [] h = some
last_low c some (j ∷ js) h = let a = h.0 in let b = last_low c some js h.1 in omega arith

module _ (catalog : Tables) (y : Typed) (s : Step) (p : Plan) (k : Known) (q : Places) (fit : runs catalog y (Then s p) k ≡ true) where
  abbrev f : Places
  f = places_after p (place_step s q)

  here : runs_step catalog y s k ≡ true
  unfolding runs
  here = (and_parts (runs_step catalog y s k) (runs catalog y p (after_step s k)) fit).0

  kept_node : (v : ℕ) → k.nodes v ≡ true → f.nodes v ≡ q.nodes v
  kept_node v e = old_node catalog y s p k q fit v e

  at_node : (v : ℕ) → (own s).nodes v ≡ true → f.nodes v ≡ (place_step s q).nodes v
  at_node v e = new_node_at catalog y s p k q fit v (own_node s k v e)

  at_rel : (x : ℕ) → (own s).rels x ≡ true → f.rels x ≡ (place_step s q).rels x
  at_rel x e = new_rel_at catalog y s p k q fit x (own_rel s k x e)

module _ (catalog : Tables) (y : Typed) (p : Plan) (k : Known) (q : Places) where
  -- a node that a step binds, and that was not known, stands in the step's group
  pub node_home : (s : Step) (fit : runs catalog y (Then s p) k ≡ true) (v : ℕ) → (own s).nodes v ≡ true
      → (k.nodes v ≡ true) ⊎ ((places_after p (place_step s q)).nodes v ≡ home y (places_after p (place_step s q)) q.count s)
  unfolding after_step place_step
  node_home (Scan u) fit v e = inr (at_node catalog y (Scan u) p k q fit v e ∙ put_at u v q.count q.nodes (one (nat_eq v u) e))
  node_home (Extend true x from to way) fit v e =
      let s = Extend true x from to way in
      inr (at_node catalog y s p k q fit v e ∙ put_at to v (q.nodes from) q.nodes (one (nat_eq v to) e)
      ∙ sym (kept_node catalog y s p k q fit from (extend_parts catalog y true x from to way k (here catalog y s p k q fit)).from_known))
  node_home (Extend false x from to way) fit v e = inr (at_node catalog y (Extend false x from to way) p k q fit v e ∙ put_at to v q.count q.nodes (one (nat_eq v to) e))
  node_home (Close column x from to way) fit v e = absurd (true≢false (sym e))
  node_home (Join side keys) fit v e = go ((after side none).nodes v) (has_number keys v) refl refl (one ((after side none).nodes v) e)
    where
      go : (a b : Bool) → (after side none).nodes v ≡ a → has_number keys v ≡ b → (after side none).nodes v ≡ true → (k.nodes v ≡ true) ⊎ ((places_after p (place_step (Join side keys) q)).nodes v ≡ q.count)
      go a true i j o = inl (keys_known catalog y side keys k (here catalog y (Join side keys) p k q fit) v j)
      go a false i j o =
          inr (at_node catalog y (Join side keys) p k q fit v e
          ∙ ap₂ (λ c d. cond (c && not d) q.count (q.nodes v)) o j)
  node_home (Keep i) fit v e = absurd (true≢false (sym e))
  node_home (Differ d) fit v e = absurd (true≢false (sym e))
  node_home (NoLoop x) fit v e = absurd (true≢false (sym e))
  node_home (Single x from to way) fit v e = absurd (true≢false (sym e))
  node_home (Meet x from to way) fit v e = absurd (true≢false (sym e))

  -- what a step binds stands in its group
  pub binds_home : (s : Step) → is_half s ≡ true → runs catalog y (Then s p) k ≡ true → BindsAt y (places_after p (place_step s q)) (home y (places_after p (place_step s q)) q.count s) s
  unfolding after_step place_step
  binds_home (Scan u) whole fit = at_node catalog y (Scan u) p k q fit u (or_left (nat_eq u u) false (eq-eqb u u refl)) ∙ put_own u q.count q.nodes
  binds_home (Extend true x from to way) whole fit =
      let s = Extend true x from to way in
      let source = sym (kept_node catalog y s p k q fit from (extend_parts catalog y true x from to way k (here catalog y s p k q fit)).from_known) in (
        at_node catalog y s p k q fit to (or_left (nat_eq to to) false (eq-eqb to to refl)) ∙ put_own to (q.nodes from) q.nodes ∙ source,
        at_rel catalog y s p k q fit x (or_left (nat_eq x x) false (eq-eqb x x refl)) ∙ put_own x (q.nodes from) q.rels ∙ source,
      )
  binds_home (Extend false x from to way) whole fit =
      let s = Extend false x from to way in (
        at_node catalog y s p k q fit to (or_left (nat_eq to to) false (eq-eqb to to refl)) ∙ put_own to q.count q.nodes,
        at_rel catalog y s p k q fit x (or_left (nat_eq x x) false (eq-eqb x x refl)) ∙ put_own x q.count q.rels,
      )
  binds_home (Close true x from to way) whole fit = absurd (true≢false (sym whole))
  binds_home (Close false x from to way) whole fit = at_rel catalog y (Close false x from to way) p k q fit x (or_left (nat_eq x x) false (eq-eqb x x refl)) ∙ put_own x q.count q.rels
  binds_home (Join side keys) whole fit = (
    λ v o. at_node catalog y (Join side keys) p k q fit v (or_left ((after side none).nodes v) false (and_parts ((after side none).nodes v) (not (has_number keys v)) o).0) ∙ ap (λ c. cond c q.count (q.nodes v)) o,
    λ x o. at_rel catalog y (Join side keys) p k q fit x (or_left ((after side none).rels x) false o) ∙ ap (λ c. cond c q.count (q.rels x)) o,
  )
  binds_home (Keep i) whole fit = tt
  binds_home (Differ d) whole fit = tt
  binds_home (NoLoop x) whole fit = tt
  binds_home (Single x from to way) whole fit =
      let s = Single x from to way in
      at_rel catalog y s p k q fit x (or_left (nat_eq x x) false (eq-eqb x x refl)) ∙ put_own x (q.nodes from) q.rels
      ∙ sym (kept_node catalog y s p k q fit from (single_parts catalog y x from to way k (here catalog y s p k q fit)).from_known)
  binds_home (Meet x from to way) whole fit = tt

  -- a step that makes no group stands in one that has been made
  pub home_low : (s : Step) → makes_group s ≡ false → runs catalog y (Then s p) k ≡ true → IsMade catalog y k q → 0 < q.count → home y (places_after p (place_step s q)) q.count s < q.count
  unfolding fits_step
  home_low (Scan u) small fit made some = absurd (true≢false small)
  home_low (Extend false x from to way) small fit made some = absurd (true≢false small)
  home_low (Extend true x from to way) small fit made some =
      let s = Extend true x from to way in
      let known_from = (extend_parts catalog y true x from to way k (here catalog y s p k q fit)).from_known in
      omega (arith, kept_node catalog y s p k q fit from known_from, made.nodes from known_from)
  home_low (Close false x from to way) small fit made some = absurd (true≢false small)
  home_low (Close true x from to way) small fit made some =
      let s = Close true x from to way in
      let parts = close_parts catalog y true x from to way k (here catalog y s p k q fit) in
      omega (arith, kept_node catalog y s p k q fit from parts.from_known, made.nodes from parts.from_known, kept_node catalog y s p k q fit to parts.to_known, made.nodes to parts.to_known)
  home_low (Join side keys) small fit made some = absurd (true≢false small)
  home_low (Keep i) small fit made some = last_low q.count some (test_groups (places_after p (place_step (Keep i) q)) (slice_get y.tests i)) (go (slice_get y.tests i) (here catalog y (Keep i) p k q fit))
    where
      each : (rs : List Read) → list_all (λ (r : Read). is_bound k r.variable) rs ≡ true → AllByRecursion (λ j. j < q.count) (map (λ (r : Read). group_of (places_after p (place_step (Keep i) q)) r.variable) rs)
      each [] h = tt
      each (r ∷ rs) h =
          let both = and_parts (is_bound k r.variable) (list_all (λ (t : Read). is_bound k t.variable) rs) h in
          (low r.variable both.0, each rs both.1)
        where
          low : (v : Variable) → is_bound k v ≡ true → group_of (places_after p (place_step (Keep i) q)) v < q.count
          low (node v) e = omega (arith, kept_node catalog y (Keep i) p k q fit v e, made.nodes v e)
          low (rel x) e = omega (arith, old_rel catalog y (Keep i) p k q fit x e, made.rels x e)

      go : (o : Option NamedExpr) → holds (test_bound k) o ≡ true → AllByRecursion (λ j. j < q.count) (test_groups (places_after p (place_step (Keep i) q)) o)
      go None h = tt
      go (Some t) h = each (reads t.expr) h
  home_low (Differ d) small fit made some = last_low q.count some (pair_groups (places_after p (place_step (Differ d) q)) (slice_get y.pairs d)) (go (slice_get y.pairs d) (here catalog y (Differ d) p k q fit))
    where
      go : (o : Option RelPair) → holds (pair_bound k) o ≡ true → AllByRecursion (λ j. j < q.count) (pair_groups (places_after p (place_step (Differ d) q)) o)
      go None h = tt
      go (Some r) h =
          let both = and_parts (k.rels r.first) (k.rels r.second) h in
          (omega (arith, old_rel catalog y (Differ d) p k q fit r.first both.0, made.rels r.first both.0), (omega (arith, old_rel catalog y (Differ d) p k q fit r.second both.1, made.rels r.second both.1), tt))
  home_low (NoLoop x) small fit made some = last_low q.count some (tested y (places_after p (place_step (NoLoop x) q)) (NoLoop x)) (go (slice_get y.rels x) (here catalog y (NoLoop x) p k q fit))
    where
      go : (o : Option TypedRel) → holds (loop_bound k x) o ≡ true
          → AllByRecursion (λ j. j < q.count) ((places_after p (place_step (NoLoop x) q)).rels x ∷ end_groups (places_after p (place_step (NoLoop x) q)) o)
      go None h = absurd (true≢false (sym h))
      go (Some r) h =
          let a = and_parts r.no_loop (k.rels x && (k.nodes r.source && k.nodes r.target)) h in
          let b = and_parts (k.rels x) (k.nodes r.source && k.nodes r.target) a.1 in
          let c = and_parts (k.nodes r.source) (k.nodes r.target) b.1 in (
            omega (arith, old_rel catalog y (NoLoop x) p k q fit x b.0, made.rels x b.0),
            (
              omega (arith, kept_node catalog y (NoLoop x) p k q fit r.source c.0, made.nodes r.source c.0),
              (omega (arith, kept_node catalog y (NoLoop x) p k q fit r.target c.1, made.nodes r.target c.1), tt),
            ),
          )
  home_low (Single x from to way) small fit made some =
      let s = Single x from to way in
      let known_from = (single_parts catalog y x from to way k (here catalog y s p k q fit)).from_known in
      omega (arith, kept_node catalog y s p k q fit from known_from, made.nodes from known_from)
  home_low (Meet x from to way) small fit made some =
      let s = Meet x from to way in
      let parts = meet_parts catalog y x from to way k (here catalog y s p k q fit) in
      omega (arith, kept_node catalog y s p k q fit from parts.from_known, made.nodes from parts.from_known, kept_node catalog y s p k q fit to parts.to_known, made.nodes to parts.to_known)

-- a relationship that a step binds stands in the step's group
module _ (catalog : Tables) (y : Typed) (p : Plan) (k : Known) (q : Places) where
  pub rel_home : (s : Step) → is_half s ≡ true → (fit : runs catalog y (Then s p) k ≡ true) (x : ℕ) → (own s).rels x ≡ true
      → (places_after p (place_step s q)).rels x ≡ home y (places_after p (place_step s q)) q.count s
  unfolding after_step place_step
  rel_home (Scan u) whole fit x e = absurd (true≢false (sym e))
  rel_home (Extend true z from to way) whole fit x e =
      let s = Extend true z from to way in
      at_rel catalog y s p k q fit x e ∙ put_at z x (q.nodes from) q.rels (one (nat_eq x z) e)
      ∙ sym (kept_node catalog y s p k q fit from (extend_parts catalog y true z from to way k (here catalog y s p k q fit)).from_known)
  rel_home (Extend false z from to way) whole fit x e = at_rel catalog y (Extend false z from to way) p k q fit x e ∙ put_at z x q.count q.rels (one (nat_eq x z) e)
  rel_home (Close true z from to way) whole fit x e = absurd (true≢false (sym whole))
  rel_home (Close false z from to way) whole fit x e = at_rel catalog y (Close false z from to way) p k q fit x e ∙ put_at z x q.count q.rels (one (nat_eq x z) e)
  rel_home (Join side keys) whole fit x e = at_rel catalog y (Join side keys) p k q fit x e ∙ ap (λ c. cond c q.count (q.rels x)) (one ((after side none).rels x) e)
  rel_home (Keep i) whole fit x e = absurd (true≢false (sym e))
  rel_home (Differ d) whole fit x e = absurd (true≢false (sym e))
  rel_home (NoLoop z) whole fit x e = absurd (true≢false (sym e))
  rel_home (Single z from to way) whole fit x e =
      let s = Single z from to way in
      at_rel catalog y s p k q fit x e ∙ put_at z x (q.nodes from) q.rels (one (nat_eq x z) e)
      ∙ sym (kept_node catalog y s p k q fit from (single_parts catalog y z from to way k (here catalog y s p k q fit)).from_known)
  rel_home (Meet z from to way) whole fit x e = absurd (true≢false (sym e))

-- what a step that makes no group reads stands in no later group
module _ (catalog : Tables) (y : Typed) (w : Places) (i : ℕ) where
  pub reads_home : (s : Step) → makes_group s ≡ false → Reads catalog y w (λ j. j ≤ home y w i s) s
  reads_home (Scan v) small = absurd (true≢false small)
  reads_home (Extend false x from to way) small = absurd (true≢false small)
  reads_home (Extend true x from to way) small = omega arith
  reads_home (Close false x from to way) small = absurd (true≢false small)
  reads_home (Close true x from to way) small = (omega arith, omega arith)
  reads_home (Join side keys) small = absurd (true≢false small)
  reads_home (Keep n) small = λ t is.
      unmapped (λ j. j ≤ last_of (tested y w (Keep n))) (λ (r : Read). group_of w r.variable) (reads t.expr)
      (subst (λ o. AllByRecursion (λ j. j ≤ last_of (tested y w (Keep n))) (test_groups w o)) is (low_from (last_of (tested y w (Keep n))) (tested y w (Keep n)) (omega arith)))
  reads_home (Differ d) small = λ r is.
      (let a = subst (λ o. AllByRecursion (λ j. j ≤ last_of (tested y w (Differ d))) (pair_groups w o)) is (low_from (last_of (tested y w (Differ d))) (tested y w (Differ d)) (omega arith)) in
      (a.0, a.1.0))
  reads_home (NoLoop x) small =
      let a = low_from (last_of (tested y w (NoLoop x))) (tested y w (NoLoop x)) (omega arith) in
      (a.0, λ r is. (let b = subst (λ o. AllByRecursion (λ j. j ≤ last_of (tested y w (NoLoop x))) (end_groups w o)) is a.1 in (b.0, b.1.0)))
  reads_home (Single x from to way) small = omega arith
  reads_home (Meet x from to way) small = (omega arith, omega arith)

  -- and it stands there by what it reads
  pub stands_home : (s : Step) → makes_group s ≡ false → StandsAt y w (home y w i s) s
  stands_home (Scan v) small = absurd (true≢false small)
  stands_home (Extend false x from to way) small = absurd (true≢false small)
  stands_home (Extend true x from to way) small = refl
  stands_home (Close false x from to way) small = absurd (true≢false small)
  stands_home (Close true x from to way) small = refl
  stands_home (Join side keys) small = absurd (true≢false small)
  stands_home (Keep n) small = refl
  stands_home (Differ d) small = refl
  stands_home (NoLoop x) small = refl
  stands_home (Single x from to way) small = refl
  stands_home (Meet x from to way) small = refl
