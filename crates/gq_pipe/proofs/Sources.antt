-- A node variable that a step of a group reads lives in the group, or stands as the flat groups before it have it.
use Rattle.std.proofs.Common.{◌≡◌, ◌⊎◌, inl, inr, ℕ, zero, suc, ◌+◌, ◌-◌, ◌<◌, ◌≤◌, Bool, true, false, ◌||◌, nat_eq, List, [], ◌∷◌, length, take, drop, refl, sym, ap, ◌∙◌, subst, arith, true≢false}
use Rattle.std.specs.Prelude.{slice_index_or}
use Rattle.std.proofs.lemmas.Bool.{eqb-true}
use Rattle.std.proofs.lemmas.List.{get_or-take, get_or-drop, length-take, length-drop}
use Rattle.gq_base.specs.Catalogs.{Tables}
use Rattle.gq_group.specs.declared.home.Homes.{Homes}
use Rattle.gq_group.specs.declared.home.NodeHome.TheVariants as node
use Rattle.gq_law_groups.specs.Groups.{makes_group}
use Rattle.gq_law_groups.specs.Layout.{ArePlaced, after_all}
use Rattle.gq_plan.specs.Covers.{after, after_step}
use Rattle.gq_plan.specs.Halves.{runs_step}
use Rattle.gq_plan.specs.Known.{Known, none}
use Rattle.gq_plan.specs.Plans.{Step, Scan, Extend, Close, Join, Keep, Differ, NoLoop, Single, Meet}
use Rattle.gq_plan.specs.declared.typed.Typed.{Typed}
use Rattle.gq_plan.specs.Soundness.{has_number}
use Rattle.gq_homes.specs.Homes.{IsHoused, node_home}
use Rattle.gq_steps.specs.Levels.{Run, step_at, known}
use Rattle.gq_steps.specs.Groups.{group_in}
use Rattle.gq_steps.specs.Moves.{IsRun}
use Rattle.gq_homes.specs.declared.homes.Filling.{Filling}
use Rattle.gq_steps.specs.declared.group_steps.GroupSteps.{GroupSteps}
use Rattle.gq_steps.proofs.Binding.{fits_at}
use Rattle.gq_homes.proofs.Brings.{KnowsKeys, knows_keys, no_keys}

-- a step behind the first of a group fits where what the steps before it bind is known
placed_fits : (catalog : Tables) (y : Typed) (checks : List Step) (k : Known) (n : ℕ) → n < length checks → ArePlaced catalog y checks k → runs_step catalog y (slice_index_or checks n (Keep 0)) (after_all (take n checks) k) ≡ true
placed_fits catalog y [] k n low h = absurd (omega (arith, low))
placed_fits catalog y (s ∷ ss) k zero low h = h.1
placed_fits catalog y (s ∷ ss) k (suc n) low h = placed_fits catalog y ss (after_step s k) n (omega (arith, low)) h.2

-- a node variable is known after steps since it was known before, or one of them binds it
record IsBound (ss : List Step) (n v : ℕ) : Type 0 where
  place : ℕ
  low : place < n
  inside : place < length ss
  before : Known
  free : before.nodes v ≡ false
  now : (after_step (slice_index_or ss place (Keep 0)) before).nodes v ≡ true

by_steps : (ss : List Step) (k : Known) (n v : ℕ) → (after_all (take n ss) k).nodes v ≡ true → (k.nodes v ≡ true) ⊎ IsBound ss n v
by_steps [] k zero v h = inl h
by_steps [] k (suc n) v h = inl h
by_steps (s ∷ ss) k zero v h = inl h
by_steps (s ∷ ss) k (suc n) v h = go (by_steps ss (after_step s k) n v h)
  where
    first : (b : Bool) → k.nodes v ≡ b → (after_step s k).nodes v ≡ true → (k.nodes v ≡ true) ⊎ IsBound (s ∷ ss) (suc n) v
    first true is now = inl is
    first false is now = inr (record { place = 0; low = omega arith; inside = omega arith; before = k; free = is; now = now })

    go : ((after_step s k).nodes v ≡ true) ⊎ IsBound ss n v → (k.nodes v ≡ true) ⊎ IsBound (s ∷ ss) (suc n) v
    go (inl now) = first (k.nodes v) refl now
    go (inr b) = let low = b.low in let inside = b.inside in inr (record { place = suc b.place; low = omega (arith, low); inside = omega (arith, inside); before = b.before; free = b.free; now = b.now })

right_true : (a b : Bool) → (a || b) ≡ true → b ≡ false → a ≡ true
right_true true b h e = refl
right_true false b h e = absurd (true≢false (sym h ∙ e))

same_var : (v w : ℕ) (k : Bool) → (nat_eq v w || k) ≡ true → k ≡ false → w ≡ v
same_var v w k h e = sym (eqb-true v w (right_true (nat_eq v w) k h e))

-- a node variable that a step of a group binds lives in the group
unfoldable pub IsIn : Homes → ℕ → ℕ → Type 0
IsIn h i v = (node_home h v ≡ node.Item i) ⊎ ((m : ℕ) × (node_home h v ≡ node.Column i m))

pub lives : (fs : List Filling) (h : Homes) (i : ℕ) (s : Step) (k : Known) (v : ℕ) → IsHoused fs h i s → KnowsKeys s k → k.nodes v ≡ false → (after_step s k).nodes v ≡ true → IsIn h i v
unfolding after_step IsIn
lives fs h i (Scan w) k v house keys_known free now = inl (ap (node_home h) (sym (same_var v w (k.nodes v) now free)) ∙ house)
lives fs h i (Extend true x from to w) k v house keys_known free now = inr (house.column, ap (node_home h) (sym (same_var v to (k.nodes v) now free)) ∙ house.node_is)
lives fs h i (Extend false x from to w) k v house keys_known free now = inl (ap (node_home h) (sym (same_var v to (k.nodes v) now free)) ∙ house.0)
lives fs h i (Close column x from to w) k v house keys_known free now = absurd (true≢false (sym now ∙ free))
lives fs h i (Join side keys) k v house keys_known free now = go (has_number keys v) refl
  where
    go : (b : Bool) → has_number keys v ≡ b → (node_home h v ≡ node.Item i) ⊎ ((m : ℕ) × (node_home h v ≡ node.Column i m))
    go true key = absurd (true≢false (sym (keys_known v key) ∙ free))
    go false other = let has = house.nodes v (right_true ((after side none).nodes v) (k.nodes v) now free) other in inr (has.column, has.node_is)
lives fs h i (Keep t) k v house keys_known free now = absurd (true≢false (sym now ∙ free))
lives fs h i (Differ p) k v house keys_known free now = absurd (true≢false (sym now ∙ free))
lives fs h i (NoLoop x) k v house keys_known free now = absurd (true≢false (sym now ∙ free))
lives fs h i (Single x from to w) k v house keys_known free now = absurd (true≢false (sym now ∙ free))
lives fs h i (Meet x from to w) k v house keys_known free now = absurd (true≢false (sym now ∙ free))

module _ (c : Run) (run : IsRun c) (fs : List Filling) (h : Homes) (i : ℕ) (s : GroupSteps) (inside : s.end ≤ length c.steps)
    (house : (e : ℕ) → s.first ≤ e → e < s.end → IsHoused fs h i (step_at c e)) (others : (e : ℕ) → s.first < e → e < s.end → makes_group (step_at c e) ≡ false) where
  check_at : (n : ℕ) → s.first + 1 + n < s.end → slice_index_or (group_in c.steps s).checks n (Keep 0) ≡ step_at c (s.first + 1 + n)
  check_at n low = get_or-take (s.end - (s.first + 1)) (drop (s.first + 1) c.steps) n (Keep 0) (omega (arith, low)) ∙ get_or-drop (s.first + 1) c.steps n (Keep 0)

  checks_long : s.first < s.end → length (group_in c.steps s).checks + (s.first + 1) ≡ s.end
  checks_long some =
      let a = length-take (s.end - (s.first + 1)) (drop (s.first + 1) c.steps) in
      let b = length-drop (s.first + 1) c.steps in
      omega (arith, a, b, some, inside)

  -- at a step behind the first one
  module _ (d : ℕ) (above : s.first < d) (below : d < s.end) (set : Known) (fit : runs_step c.graph.catalog c.typed (step_at c s.first) set ≡ true) (placed : ArePlaced c.graph.catalog c.typed (group_in c.steps s).checks (after_step (step_at c s.first) set)) where
    abbrev checks : List Step
    checks = (group_in c.steps s).checks

    abbrev n : ℕ
    n = d - (s.first + 1)

    abbrev pub there : Known
    there = after_all (take n checks) (after_step (step_at c s.first) set)

    pub fits_there : runs_step c.graph.catalog c.typed (step_at c d) there ≡ true
    fits_there =
        let many = checks_long (omega (arith, above, below)) in
        let at : s.first + 1 + n ≡ d = omega (arith, above) in
        ap (λ t. runs_step c.graph.catalog c.typed t there) (ap (step_at c) (sym at) ∙ sym (check_at n (omega (arith, at, below))))
        ∙ placed_fits c.graph.catalog c.typed checks (after_step (step_at c s.first) set) n (omega (arith, many, above, below)) placed

    pub set_before : (v : ℕ) → there.nodes v ≡ true → (set.nodes v ≡ true) ⊎ IsIn h i v
    set_before v is = go (by_steps checks (after_step (step_at c s.first) set) n v is)
      where
        first : (b : Bool) → set.nodes v ≡ b → (after_step (step_at c s.first) set).nodes v ≡ true → (set.nodes v ≡ true) ⊎ IsIn h i v
        first true known_there now = inl known_there
        first false free now = inr (lives fs h i (step_at c s.first) set v (house s.first (omega arith) (omega (arith, above, below))) (knows_keys c.graph.catalog c.typed (step_at c s.first) set fit) free now)

        go : ((after_step (step_at c s.first) set).nodes v ≡ true) ⊎ IsBound checks n v → (set.nodes v ≡ true) ⊎ IsIn h i v
        go (inl now) = first (set.nodes v) refl now
        go (inr b) =
            let low = b.low in
            let e : ℕ = s.first + 1 + b.place in
            let under : e < s.end = omega (arith, low, below, above) in
            let is_step : slice_index_or checks b.place (Keep 0) ≡ step_at c e = check_at b.place under in
            inr (lives fs h i (step_at c e) b.before v (house e (omega arith) under) (no_keys (step_at c e) b.before (others e (omega arith) under)) b.free (subst (λ t. (after_step t b.before).nodes v ≡ true) is_step b.now))

  -- what is known at a step of the group was known before the group, or lives in it
  known_from : (m d v : ℕ) → s.first + m ≡ d → d ≤ s.end → (known c d).nodes v ≡ true → ((known c s.first).nodes v ≡ true) ⊎ IsIn h i v
  unfolding known
  known_from zero d v at low is = inl (subst (λ n. (known c n).nodes v ≡ true) (omega (arith, at)) is)
  known_from (suc m) zero v at low is = absurd (omega (arith, at))
  known_from (suc m) (suc d) v at low is = go ((known c d).nodes v) refl (λ was. known_from m d v (omega (arith, at)) (omega (arith, low)) was)
    where
      go : (b : Bool) → (known c d).nodes v ≡ b → ((known c d).nodes v ≡ true → ((known c s.first).nodes v ≡ true) ⊎ IsIn h i v) → ((known c s.first).nodes v ≡ true) ⊎ IsIn h i v
      go true was rest = rest was
      go false free rest = inr (lives fs h i (step_at c d) (known c d) v (house d (omega (arith, at)) (omega (arith, low))) (knows_keys c.graph.catalog c.typed (step_at c d) (known c d) (fits_at c run d (omega (arith, low, inside)))) free is)

  pub known_before : (d v : ℕ) → s.first ≤ d → d ≤ s.end → (known c d).nodes v ≡ true → ((known c s.first).nodes v ≡ true) ⊎ IsIn h i v
  known_before d v low high is = known_from (d - s.first) d v (omega (arith, low)) high is
