-- One more step puts what it binds into its group, and changes the home of no other variable.
use Rattle.std.proofs.Common.{◌≡◌, ◌≢◌, ◌⊎◌, inl, inr, ℕ, zero, suc, ◌+◌, ◌-◌, ◌<◌, ◌≤◌, Bool, true, false, ◌||◌, nat_eq, Option, List, [], ◌∷◌, ◌++◌, filter, length, take, refl, sym, ap, ◌∙◌, subst, arith, true≢false}
use Rattle.std.specs.Prelude.{All}
use Rattle.std.proofs.lemmas.Bool.{and_parts, cases_eq, cases_lt, eq-eqb, ltb-true, or_left}
use Rattle.std.proofs.lemmas.List.{get_or-set_same, get_or-set_other, get_or_append_left, get_or_push, length_push, length-append, length-set, take_more}
use Rattle.std.specs.List.{range_with_len, sum_by}
use Rattle.std.proofs.lemmas.List.Sums.{sum_by-append, sum_by-cons}
use Rattle.std.proofs.lemmas.Option.{slice_get_within}
use Rattle.gq_group.specs.declared.home.Homes.{Homes}
use Rattle.gq_group.specs.declared.home.NodeHome.{NodeHome}
use Rattle.gq_group.specs.declared.home.NodeHome.TheVariants as node
use Rattle.gq_group.specs.declared.home.RelHome.{RelHome}
use Rattle.gq_group.specs.declared.home.RelHome.TheVariants as rel
use Rattle.gq_join.specs.Kept.{Held, place_of}
use Rattle.gq_law_groups.specs.Groups.{makes_group}
use Rattle.gq_law_groups.specs.Order.{AreCut, NoGroups}
use Rattle.gq_plan.specs.Columns.{own_columns}
use Rattle.gq_plan.specs.Covers.{after, after_step, fits_step}
use Rattle.gq_plan.specs.Halves.{runs_step}
use Rattle.gq_plan.specs.Known.{Known, none}
use Rattle.gq_plan.specs.Plans.{Step, Scan, Extend, Close, Join, Keep, Differ, NoLoop, Single, Meet}
use Rattle.gq_steps.specs.Built.{FitsBuild}
use Rattle.gq_homes.specs.Homes.{AreHomes, HasKeptColumn, InGroup, IsColumnOf, IsFilling, IsHoused, column_group, filling_at, filling_of, is_forward, no_filling, node_home, rel_home}
use Rattle.gq_homes.specs.steps.Housing.{build_in, AreHoused, CanHouse, CanHouseBuild, brought_by, fillings_of, housed, with_filling, with_node_home, with_rel_home}
use Rattle.gq_steps.specs.Levels.{Run, step_at, known}
use Rattle.gq_steps.specs.Groups.{group_at, group_in, groups_in, Tiles}
use Rattle.gq_steps.specs.Moves.{IsRun}
use Rattle.gq_homes.specs.declared.homes.Filling.{Filling}
use Rattle.gq_homes.specs.declared.homes.Filling.TheVariants.{Led, Kept}
use Rattle.gq_steps.specs.declared.group_steps.GroupSteps.{GroupSteps}
use Rattle.gq_steps.proofs.Binding.{fits_at, step_keeps_node}
use Rattle.gq_homes.proofs.Brings.{Brings, brings, shared_key, unshared_rel}
use Rattle.gq_steps.proofs.Going.{later_node, later_rel}
use Rattle.gq_steps.proofs.Here.{none_at}
use Rattle.gq_steps.proofs.Joined.{build_at, kept_low}
use Rattle.gq_steps.proofs.Piecing.{single_is}
use Rattle.gq_steps.proofs.Standings.{tile_at}
use Rattle.gq_steps.proofs.Stepping.{Follows, follows, near_rows_are, not_true}

-- ---- one variable

node_set : (h : Homes) (v : ℕ) (o : NodeHome) → v < length h.nodes → node_home (with_node_home v o h) v ≡ o
node_set h v o low = get_or-set_same h.nodes v o node.Nowhere low

node_other : (h : Homes) (v w : ℕ) (o : NodeHome) → w ≢ v → node_home (with_node_home v o h) w ≡ node_home h w
node_other h v w o other = get_or-set_other h.nodes v w o node.Nowhere other

rel_set : (h : Homes) (x : ℕ) (o : RelHome) → x < length h.rels → rel_home (with_rel_home x o h) x ≡ o
rel_set h x o low = get_or-set_same h.rels x o rel.Nowhere low

rel_other : (h : Homes) (x w : ℕ) (o : RelHome) → w ≢ x → rel_home (with_rel_home x o h) w ≡ rel_home h w
rel_other h x w o other = get_or-set_other h.rels x w o rel.Nowhere other

differs : (known : ℕ → Bool) (v w : ℕ) → known w ≡ true → known v ≡ false → w ≢ v
differs known v w has spare same = true≢false (sym has ∙ ap known same ∙ spare)

-- homes that have what is known alike
pub record Keeps (k : Known) (old new : Homes) : Type 0 where
  pub rel_count : length new.rels ≡ length old.rels
  pub nodes : (v : ℕ) → k.nodes v ≡ true → node_home new v ≡ node_home old v
  pub rels : (x : ℕ) → k.rels x ≡ true → rel_home new x ≡ rel_home old x

-- columns with more behind them
pub record Longer (old new : List Filling) : Type 0 where
  pub low : (m : ℕ) → m < length old → m < length new
  pub same : (m : ℕ) → m < length old → filling_at new m ≡ filling_at old m

longer_behind : (fs more : List Filling) → Longer fs (fs ++ more)
longer_behind fs more = record { low = λ m h. omega (arith, h, length-append fs more); same = λ m h. get_or_append_left fs more no_filling m h }

pub longer : (o : Option Held) (i d : ℕ) (s : Step) (fs : List Filling) → Longer fs (with_filling o i d s fs)
longer o i d (Scan v) fs = record { low = λ m h. h; same = λ m h. refl }
longer o i d (Extend true x from to way) fs = longer_behind fs (filling_of i x from way ∷ [])
longer o i d (Extend false x from to way) fs = record { low = λ m h. h; same = λ m h. refl }
longer o i d (Close column x from to way) fs = record { low = λ m h. h; same = λ m h. refl }
longer o i d (Join side keys) fs = longer_behind fs (fillings_of i d (brought_by keys o))
longer o i d (Keep t) fs = record { low = λ m h. h; same = λ m h. refl }
longer o i d (Differ p) fs = record { low = λ m h. h; same = λ m h. refl }
longer o i d (NoLoop x) fs = record { low = λ m h. h; same = λ m h. refl }
longer o i d (Single x from to way) fs = record { low = λ m h. h; same = λ m h. refl }
longer o i d (Meet x from to way) fs = record { low = λ m h. h; same = λ m h. refl }

-- what a step binds is known behind it, so it stays where it lives
stays_housed : (k : Known) (fs more : List Filling) (old new : Homes) (i : ℕ) (s : Step) (b : Known) → ((v : ℕ) → (after_step s b).nodes v ≡ true → k.nodes v ≡ true) → ((x : ℕ) → (after_step s b).rels x ≡ true → k.rels x ≡ true)
    → Longer fs more → Keeps k old new → IsHoused fs old i s → IsHoused more new i s
unfolding after_step
stays_housed k fs more old new i (Scan v) b nodes rels long keep h = keep.nodes v (nodes v (or_left (nat_eq v v) (b.nodes v) (eq-eqb v v refl))) ∙ h
stays_housed k fs more old new i (Extend true x from to way) b nodes rels long keep h = record {
  column = h.column;
  inside = long.low h.column h.inside;
  filling = long.same h.column h.inside ∙ h.filling;
  node_is = keep.nodes to (nodes to (or_left (nat_eq to to) (b.nodes to) (eq-eqb to to refl))) ∙ h.node_is;
  edge_is = keep.rels x (rels x (or_left (nat_eq x x) (b.rels x) (eq-eqb x x refl))) ∙ h.edge_is;
}
stays_housed k fs more old new i (Extend false x from to way) b nodes rels long keep h =
    (keep.nodes to (nodes to (or_left (nat_eq to to) (b.nodes to) (eq-eqb to to refl))) ∙ h.0, keep.rels x (rels x (or_left (nat_eq x x) (b.rels x) (eq-eqb x x refl))) ∙ h.1)
stays_housed k fs more old new i (Close true x from to way) b nodes rels long keep h = keep.rels x (rels x (or_left (nat_eq x x) (b.rels x) (eq-eqb x x refl))) ∙ h
stays_housed k fs more old new i (Close false x from to way) b nodes rels long keep h = keep.rels x (rels x (or_left (nat_eq x x) (b.rels x) (eq-eqb x x refl))) ∙ h
stays_housed k fs more old new i (Join side keys) b nodes rels long keep h = record {
  nodes = λ v own other. column v own (h.nodes v own other);
  rels = λ x own. keep.rels x (rels x (or_left ((after side none).rels x) (b.rels x) own)) ∙ h.rels x own ∙ ap (λ n. rel.Kept i (place_of (filter (after side none).rels (range_with_len 0 n)) x)) (sym keep.rel_count);
}
  where
    column : (v : ℕ) → (after side none).nodes v ≡ true → HasKeptColumn fs old i v → HasKeptColumn more new i v
    column v own has = record {
      column = has.column;
      depth = has.depth;
      inside = long.low has.column has.inside;
      filling = long.same has.column has.inside ∙ has.filling;
      node_is = keep.nodes v (nodes v (or_left ((after side none).nodes v) (b.nodes v) own)) ∙ has.node_is;
    }
stays_housed k fs more old new i (Keep t) b nodes rels long keep h = tt
stays_housed k fs more old new i (Differ p) b nodes rels long keep h = tt
stays_housed k fs more old new i (NoLoop x) b nodes rels long keep h = tt
stays_housed k fs more old new i (Single x from to way) b nodes rels long keep h = keep.rels x (rels x (or_left (nat_eq x x) (b.rels x) (eq-eqb x x refl))) ∙ h
stays_housed k fs more old new i (Meet x from to way) b nodes rels long keep h = tt

-- a variable that lives in a column lived there, or lives there now
column_set : (h : Homes) (v w : ℕ) (o : NodeHome) (j m : ℕ) → v < length h.nodes → node_home (with_node_home v o h) w ≡ node.Column j m → (node_home h w ≡ node.Column j m) ⊎ (o ≡ node.Column j m)
column_set h v w o j m low e = go (cases_eq w v)
  where
    go : (w ≡ v) ⊎ (w ≡ v → ⊥) → (node_home h w ≡ node.Column j m) ⊎ (o ≡ node.Column j m)
    go (inl same) = inr (sym (node_set h v o low) ∙ ap (node_home (with_node_home v o h)) (sym same) ∙ e)
    go (inr other) = inl (sym (node_other h v w o other) ∙ e)

column_kept : (h : Homes) (v w i j m : ℕ) → v < length h.nodes → node_home (with_node_home v (node.Item i) h) w ≡ node.Column j m → node_home h w ≡ node.Column j m
column_kept h v w i j m low e = go (column_set h v w (node.Item i) j m low e)
  where
    go : (node_home h w ≡ node.Column j m) ⊎ (node.Item i ≡ node.Column j m) → node_home h w ≡ node.Column j m
    go (inl is) = is
    go (inr new) = absurd (cc new)

-- ---- one step

pub record Added (c : Run) (o : Option Held) (i d : ℕ) (s : Step) (k : Known) (fs : List Filling) (old new : Homes) : Type 0 where
  pub node_count : length new.nodes ≡ length old.nodes
  pub rel_count : length new.rels ≡ length old.rels
  pub keeps : Keeps k old new
  pub is : IsHoused (with_filling o i d s fs) new i s
  pub free_nodes : (v : ℕ) → (after_step s k).nodes v ≡ false → node_home new v ≡ node_home old v
  pub free_rels : (x : ℕ) → (after_step s k).rels x ≡ false → rel_home new x ≡ rel_home old x
  pub columns : (v j m : ℕ) → node_home new v ≡ node.Column j m → (node_home old v ≡ node.Column j m) ⊎ IsColumnOf (with_filling o i d s fs) j m

not_left : (a b : Bool) → (a || b) ≡ false → a ≡ false
not_left true b e = absurd (true≢false e)
not_left false b e = refl

not_same : (v w : ℕ) (b : Bool) → (nat_eq v w || b) ≡ false → v ≢ w
not_same v w b e same = true≢false (sym (eq-eqb v w same) ∙ not_left (nat_eq v w) b e)

module _ (c : Run) (run : IsRun c) (h : Homes) (nodes : length h.nodes ≡ length c.typed.nodes) (rels : length h.rels ≡ length c.typed.rels) (k : Known) (fs : List Filling) (o : Option Held) where
  -- the variables that a step binds are variables of the alternative
  pub can_house : (s : Step) → runs_step c.graph.catalog c.typed s k ≡ true → FitsBuild c.graph c.typed s o → CanHouse o h s
  unfolding fits_step
  can_house (Scan v) fit built = let low : v < length c.typed.nodes = ltb-true v (length c.typed.nodes) (and_parts _ _ fit).0 in omega (arith, low, nodes)
  can_house (Extend column x from to way) fit built =
      let f : Follows c x from to way = follows c run column x from to way (and_parts _ _ fit).0 in
      let x_low : x < length c.typed.rels = slice_get_within c.typed.rels x _ f.rel_is in
      let to_low : to < length c.typed.nodes = slice_get_within c.typed.nodes to _ f.far in
      (omega (arith, x_low, rels), omega (arith, to_low, nodes))
  can_house (Close column x from to way) fit built =
      let f : Follows c x from to way = follows c run column x from to way (and_parts _ _ fit).0 in
      let x_low : x < length c.typed.rels = slice_get_within c.typed.rels x _ f.rel_is in
      omega (arith, x_low, rels)
  can_house (Join side keys) fit built =
      subst (λ o. CanHouseBuild o h) (sym built.there) (
        subst (λ (l : List ℕ). All (λ v. v < length h.nodes) l) (sym built.is.nodes) (rw nodes (kept_low (after side none).nodes (length c.typed.nodes))),
        subst (λ (l : List ℕ). All (λ x. x < length h.rels) l) (sym built.is.rels) (rw rels (kept_low (after side none).rels (length c.typed.rels))),
      )
  can_house (Keep t) fit built = tt
  can_house (Differ p) fit built = tt
  can_house (NoLoop x) fit built = tt
  can_house (Single x from to way) fit built =
      let f : Follows c x from to way = follows c run true x from to way (and_parts _ _ fit).0 in
      let x_low : x < length c.typed.rels = slice_get_within c.typed.rels x _ f.rel_is in
      omega (arith, x_low, rels)
  can_house (Meet x from to way) fit built = tt

  only_rel : (i d x : ℕ) (home : RelHome) (s : Step) (new : Homes) → new ≡ with_rel_home x home h → x < length h.rels → k.rels x ≡ false
      → ((v : ℕ) → (after_step s k).rels v ≡ false → v ≢ x) → (rel_home new x ≡ home → IsHoused (with_filling o i d s fs) new i s) → Added c o i d s k fs h new
  only_rel i d x home s new is low spare others house = record {
    node_count = ap (λ (h : Homes). length h.nodes) is;
    rel_count = ap (λ (h : Homes). length h.rels) is ∙ length-set h.rels x home;
    keeps = record {
      rel_count = ap (λ (h : Homes). length h.rels) is ∙ length-set h.rels x home;
      nodes = λ v e. ap (λ (h : Homes). node_home h v) is;
      rels = λ w e. ap (λ (h : Homes). rel_home h w) is ∙ rel_other h x w home (differs k.rels x w e spare);
    };
    is = house (ap (λ (h : Homes). rel_home h x) is ∙ rel_set h x home low);
    free_nodes = λ v e. ap (λ (h : Homes). node_home h v) is;
    free_rels = λ w e. ap (λ (h : Homes). rel_home h w) is ∙ rel_other h x w home (others w e);
    columns = λ v j m e. inl (ap (λ (h : Homes). node_home h v) (sym is) ∙ e);
  }

  nothing_new : (i d : ℕ) (s : Step) → IsHoused (with_filling o i d s fs) h i s → Added c o i d s k fs h h
  nothing_new i d s house = record {
    node_count = refl;
    rel_count = refl;
    keeps = record { rel_count = refl; nodes = λ v e. refl; rels = λ x e. refl };
    is = house;
    free_nodes = λ v e. refl;
    free_rels = λ x e. refl;
    columns = λ v j m e. inl e;
  }

  pub added : (i d : ℕ) (s : Step) → runs_step c.graph.catalog c.typed s k ≡ true → FitsBuild c.graph c.typed s o → Added c o i d s k fs h (housed o i (length fs) s h)
  unfolding fits_step after_step
  added i d (Scan v) fit built =
      let parts = and_parts _ _ fit in
      let low = can_house (Scan v) fit built in
      record {
        node_count = length-set h.nodes v (node.Item i);
        rel_count = refl;
        keeps = record { rel_count = refl; nodes = λ w e. node_other h v w (node.Item i) (differs k.nodes v w e (not_true _ parts.1)); rels = λ x e. refl };
        is = node_set h v (node.Item i) low;
        free_nodes = λ w e. node_other h v w (node.Item i) (not_same w v (k.nodes w) e);
        free_rels = λ x e. refl;
        columns = λ w j m e. inl (column_kept h v w i j m low e);
      }
  added i d (Extend false x from to way) fit built =
      let more = and_parts _ _ (and_parts _ _ fit).1 in
      let fresh = and_parts _ _ (and_parts _ _ more.1).1 in
      let low = can_house (Extend false x from to way) fit built in
      let home : RelHome = rel.Listed i from (is_forward way) in
      record {
        node_count = length-set h.nodes to (node.Item i);
        rel_count = length-set h.rels x home;
        keeps = record {
          rel_count = length-set h.rels x home;
          nodes = λ w e. node_other h to w (node.Item i) (differs k.nodes to w e (not_true _ fresh.1));
          rels = λ w e. rel_other h x w home (differs k.rels x w e (not_true _ more.0));
        };
        is = (node_set h to (node.Item i) low.1, rel_set h x home low.0);
        free_nodes = λ w e. node_other h to w (node.Item i) (not_same w to (k.nodes w) e);
        free_rels = λ w e. rel_other h x w home (not_same w x (k.rels w) e);
        columns = λ w j m e. inl (column_kept h to w i j m low.1 e);
      }
  added i d (Extend true x from to way) fit built =
      let more = and_parts _ _ (and_parts _ _ fit).1 in
      let fresh = and_parts _ _ (and_parts _ _ more.1).1 in
      let low = can_house (Extend true x from to way) fit built in
      let home : RelHome = rel.Single from (is_forward way) in
      let n : NodeHome = node.Column i (length fs) in
      let f : Filling = filling_of i x from way in
      let longer_by : length (fs ++ f ∷ []) ≡ length fs + 1 = length_push fs f in
      record {
        node_count = length-set h.nodes to n;
        rel_count = length-set h.rels x home;
        keeps = record {
          rel_count = length-set h.rels x home;
          nodes = λ w e. node_other h to w n (differs k.nodes to w e (not_true _ fresh.1));
          rels = λ w e. rel_other h x w home (differs k.rels x w e (not_true _ more.0));
        };
        is = record {
          column = length fs;
          inside = omega (arith, longer_by);
          filling = get_or_push fs f no_filling (length fs) refl;
          node_is = node_set h to n low.1;
          edge_is = rel_set h x home low.0;
        };
        free_nodes = λ w e. node_other h to w n (not_same w to (k.nodes w) e);
        free_rels = λ w e. rel_other h x w home (not_same w x (k.rels w) e);
        columns = λ w j m e. told j m (column_set h to w n j m low.1 e) longer_by;
      }
    where
      told : (j m : ℕ) → {A : Type 0} → A ⊎ (node.Column i (length fs) ≡ node.Column j m) → length (fs ++ filling_of i x from way ∷ []) ≡ length fs + 1 → A ⊎ IsColumnOf (fs ++ filling_of i x from way ∷ []) j m
      told j m (inl is) more = inl is
      told j m (inr is) more =
          let same : length fs ≡ m = cc is in
          let here : i ≡ j = cc is in
          inr (record { inside = omega (arith, same, more); group = ap column_group (get_or_push fs (filling_of i x from way) no_filling m same) ∙ here })
  added i d (Close false x from to way) fit built =
      only_rel i d x (rel.Listed i from (is_forward way)) (Close false x from to way) _ refl (can_house (Close false x from to way) fit built) (not_true _ (and_parts _ _ (and_parts _ _ fit).1).0) (λ w e. not_same w x (k.rels w) e) (λ e. e)
  added i d (Close true x from to way) fit built =
      only_rel i d x (rel.Single from (is_forward way)) (Close true x from to way) _ refl (can_house (Close true x from to way) fit built) (not_true _ (and_parts _ _ (and_parts _ _ fit).1).0) (λ w e. not_same w x (k.rels w) e) (λ e. e)
  added i d (Join side keys) fit built =
      let b : Brings c.typed side keys i d fs h o = brings c k side keys fit o built h nodes rels i d fs in
      record {
        node_count = b.node_count;
        rel_count = b.rel_count;
        keeps = record {
          rel_count = b.rel_count;
          nodes = λ v e. b.other_node v (λ own. shared_key c k side keys fit v own e);
          rels = λ x e. b.other_rel x (unshared_rel c k side keys fit x e);
        };
        is = record { nodes = b.node_there; rels = b.rel_there };
        free_nodes = λ v e. b.other_node v (λ own. absurd (true≢false (sym own ∙ not_left ((after side none).nodes v) (k.nodes v) e)));
        free_rels = λ x e. b.other_rel x (not_left ((after side none).rels x) (k.rels x) e);
        columns = b.column;
      }
  added i d (Keep t) fit built = nothing_new i d (Keep t) tt
  added i d (Differ p) fit built = nothing_new i d (Differ p) tt
  added i d (NoLoop x) fit built = nothing_new i d (NoLoop x) tt
  added i d (Single x from to way) fit built =
      only_rel i d x (rel.Single from (is_forward way)) (Single x from to way) _ refl (can_house (Single x from to way) fit built) (not_true _ (and_parts _ _ (and_parts _ _ fit).1).0) (λ w e. not_same w x (k.rels w) e) (λ e. e)
  added i d (Meet x from to way) fit built = nothing_new i d (Meet x from to way) tt

  -- the columns of before, and that of the step
  still_filling : (ss : List GroupSteps) (next : Known) (new : Homes) (m : ℕ) (f : Filling) → ((v : ℕ) → k.nodes v ≡ true → next.nodes v ≡ true) → Keeps k h new → IsFilling c ss k h m f → IsFilling c ss next new m f
  still_filling ss next new m (Led f) on keep is = record {
    group = is.group;
    fill = is.fill;
    source = on f.from is.source;
    before = λ j q e. is.before j q (sym (keep.nodes f.from is.source) ∙ e);
  }
  still_filling ss next new m (Kept f) on keep is = is

  new_filling : (ss : List GroupSteps) (i d m : ℕ) → i < length ss → d < length c.steps → (s : Step) → step_at c d ≡ s → (makes_group s ≡ true → d ≡ (group_at ss i).first) → runs_step c.graph.catalog c.typed s k ≡ true → FitsBuild c.graph c.typed s o
      → ((v j q : ℕ) → node_home h v ≡ node.Column j q → q < length fs) → Keeps k h (housed o i (length fs) s h) → length fs ≤ m → m < length (with_filling o i d s fs)
      → IsFilling c ss (after_step s k) (housed o i (length fs) s h) m (filling_at (with_filling o i d s fs) m)
  unfolding fits_step after_step
  new_filling ss i d m low d_low (Scan v) at first fit built columns keep above inside = absurd (omega (arith, above, inside))
  new_filling ss i d m low d_low (Extend true x from to way) at first fit built columns keep above inside =
      let f : Follows c x from to way = follows c run true x from to way (and_parts _ _ fit).0 in
      let more = and_parts _ _ (and_parts _ _ fit).1 in
      let near : k.nodes from ≡ true = (and_parts _ _ more.1).0 in
      let is : Filling = filling_of i x from way in
      let here : length fs ≡ m = (let most = length_push fs is in omega (arith, above, inside, most)) in
      subst (IsFilling c ss (after_step (Extend true x from to way) k) (housed o i (length fs) (Extend true x from to way) h) m) (sym (get_or_push fs is no_filling m here))
      (record {
        group = low;
        fill = record {
          rel = slice_get_within c.typed.rels x _ f.rel_is;
          from = slice_get_within c.typed.nodes from _ f.near;
          table = slice_get_within c.graph.catalog.rels _ _ f.table_is;
          rows = near_rows_are c run x from to way f;
          single = single_is c from to x way (and_parts _ _ fit).0;
        };
        source = step_keeps_node (Extend true x from to way) k from near;
        before = λ j q e. (let below = columns from j q (sym (keep.nodes from near) ∙ e) in omega (arith, below, here));
      })
  new_filling ss i d m low d_low (Extend false x from to way) at first fit built columns keep above inside = absurd (omega (arith, above, inside))
  new_filling ss i d m low d_low (Close column x from to way) at first fit built columns keep above inside = absurd (omega (arith, above, inside))
  new_filling ss i d m low d_low (Join side keys) at first fit built columns keep above inside =
      let b : Brings c.typed side keys i d fs h o = brings c k side keys fit o built h nodes rels i d fs in
      let f = b.filling m above inside in
      subst (IsFilling c ss (after_step (Join side keys) k) (housed o i (length fs) (Join side keys) h) m) (sym f.1)
      (record { group = low; depth = first refl; low = d_low; side = side; keys = keys; step = at; bound = f.2 })
  new_filling ss i d m low d_low (Keep t) at first fit built columns keep above inside = absurd (omega (arith, above, inside))
  new_filling ss i d m low d_low (Differ p) at first fit built columns keep above inside = absurd (omega (arith, above, inside))
  new_filling ss i d m low d_low (NoLoop x) at first fit built columns keep above inside = absurd (omega (arith, above, inside))
  new_filling ss i d m low d_low (Single x from to way) at first fit built columns keep above inside = absurd (omega (arith, above, inside))
  new_filling ss i d m low d_low (Meet x from to way) at first fit built columns keep above inside = absurd (omega (arith, above, inside))

  pub fillings_more : (ss : List GroupSteps) (i d : ℕ) → i < length ss → d < length c.steps → (s : Step) → step_at c d ≡ s → (makes_group s ≡ true → d ≡ (group_at ss i).first) → runs_step c.graph.catalog c.typed s k ≡ true → FitsBuild c.graph c.typed s o
      → ((v j m : ℕ) → node_home h v ≡ node.Column j m → m < length fs) → ((m : ℕ) → m < length fs → IsFilling c ss k h m (filling_at fs m)) → Added c o i d s k fs h (housed o i (length fs) s h)
      → (m : ℕ) → m < length (with_filling o i d s fs) → IsFilling c ss (after_step s k) (housed o i (length fs) s h) m (filling_at (with_filling o i d s fs) m)
  fillings_more ss i d low d_low s at first fit built columns old a m inside = go (cases_lt m (length fs))
    where
      on : (v : ℕ) → k.nodes v ≡ true → (after_step s k).nodes v ≡ true
      on v = step_keeps_node s k v

      go : (m < length fs) ⊎ (length fs ≤ m) → IsFilling c ss (after_step s k) (housed o i (length fs) s h) m (filling_at (with_filling o i d s fs) m)
      go (inl below) =
          subst (IsFilling c ss (after_step s k) (housed o i (length fs) s h) m) (sym ((longer o i d s fs).same m below))
          (still_filling ss (after_step s k) (housed o i (length fs) s h) m (filling_at fs m) on a.keeps (old m below))
      go (inr above) = new_filling ss i d m low d_low s at first fit built columns a.keeps above inside

less : (before later : Bool) → (before ≡ true → later ≡ true) → later ≡ false → before ≡ false
less true later keeps e = absurd (true≢false (sym (keeps refl) ∙ e))
less false later keeps e = refl

less_node : (s : Step) (k : Known) (v : ℕ) → (after_step s k).nodes v ≡ false → k.nodes v ≡ false
less_node s k v = less (k.nodes v) ((after_step s k).nodes v) (Rattle.gq_steps.proofs.Binding.step_keeps_node s k v)

less_rel : (s : Step) (k : Known) (x : ℕ) → (after_step s k).rels x ≡ false → k.rels x ≡ false
less_rel s k x = less (k.rels x) ((after_step s k).rels x) (Rattle.gq_steps.proofs.Binding.step_keeps_rel s k x)

-- ---- the steps of a group

module _ (c : Run) (run : IsRun c) (ss : List GroupSteps) (i : ℕ) where
  -- a step has at least as many columns of its own
  own : (o : Option Held) (d : ℕ) (s : Step) (fs : List Filling) (h : Homes) → length h.nodes ≡ length c.typed.nodes → length h.rels ≡ length c.typed.rels → (k : Known) → runs_step c.graph.catalog c.typed s k ≡ true → FitsBuild c.graph c.typed s o
      → length (with_filling o i d s fs) ≤ length fs + own_columns c.typed s
  own o d (Scan v) fs h nodes rels k fit built = omega arith
  own o d (Extend true x from to way) fs h nodes rels k fit built = let one = length_push fs (filling_of i x from way) in omega (arith, one)
  own o d (Extend false x from to way) fs h nodes rels k fit built = omega arith
  own o d (Close column x from to way) fs h nodes rels k fit built = omega arith
  own o d (Join side keys) fs h nodes rels k fit built = (brings c k side keys fit o built h nodes rels i d fs).few
  own o d (Keep t) fs h nodes rels k fit built = omega arith
  own o d (Differ p) fs h nodes rels k fit built = omega arith
  own o d (NoLoop x) fs h nodes rels k fit built = omega arith
  own o d (Single x from to way) fs h nodes rels k fit built = omega arith
  own o d (Meet x from to way) fs h nodes rels k fit built = omega arith

  abbrev fillings_then : ℕ → List Filling → List Filling
  fillings_then d fs = with_filling (build_in c d) i d (step_at c d) fs

  abbrev homes_then : ℕ → List Filling → Homes → Homes
  homes_then d fs h = housed (build_in c d) i (length fs) (step_at c d) h

  pub built_at : (d : ℕ) → d < length c.steps → FitsBuild c.graph c.typed (step_at c d) (build_in c d)
  built_at d low = build_at c.graph c.typed c.steps c.builds d run.builds low

  few_more : (d : ℕ) (fs : List Filling) (h : Homes) → length h.nodes ≡ length c.typed.nodes → length h.rels ≡ length c.typed.rels → d < length c.steps → length fs ≤ sum_by (own_columns c.typed) (take d c.steps) → length (fillings_then d fs) ≤ sum_by (own_columns c.typed) (take (suc d) c.steps)
  few_more d fs h nodes rels low few =
      let next : suc d ≡ d + 1 = omega arith in
      let more : sum_by (own_columns c.typed) (take (suc d) c.steps) ≡ sum_by (own_columns c.typed) (take d c.steps) + own_columns c.typed (step_at c d) =
      ap (λ n. sum_by (own_columns c.typed) (take n c.steps)) next ∙ ap (sum_by (own_columns c.typed)) (take_more c.steps d (Keep 0) low) ∙ sum_push (take d c.steps) (step_at c d) in
      let here = own (build_in c d) d (step_at c d) fs h nodes rels (known c d) (fits_at c run d low) (built_at d low) in
      omega (arith, few, more, here)
    where
      sum_push : (ss : List Step) (s : Step) → sum_by (own_columns c.typed) (ss ++ s ∷ []) ≡ sum_by (own_columns c.typed) ss + own_columns c.typed s
      sum_push ss s = sum_by-append (own_columns c.typed) ss (s ∷ []) ∙ ap (λ n. sum_by (own_columns c.typed) ss + n) (sum_by-one s)
        where
          sum_by-one : (s : Step) → sum_by (own_columns c.typed) (s ∷ []) ≡ own_columns c.typed s
          sum_by-one s = let one = sum_by-cons (own_columns c.typed) s [] in omega (arith, one)

  pub housed_first : (fs : List Filling) (h : Homes) → AreHomes c ss i (group_at ss i).first fs h → AreHoused c ss i (group_at ss i).first fs h
  housed_first fs h homes = record { homes = homes; here = λ e low high. absurd (omega (arith, low, high)) }

  pub housed_more : (d : ℕ) (fs : List Filling) (h : Homes) → i < length ss → d < length c.steps → (makes_group (step_at c d) ≡ true → d ≡ (group_at ss i).first) → AreHoused c ss i d fs h
      → AreHoused c ss i (d + 1) (with_filling (build_in c d) i d (step_at c d) fs) (housed (build_in c d) i (length fs) (step_at c d) h)
  unfolding known
  housed_more d fs h number low first old =
      let fit = fits_at c run d low in
      let a : Added c (build_in c d) i d (step_at c d) (known c d) fs h (homes_then d fs h) = added c run h old.homes.node_count old.homes.rel_count (known c d) fs (build_in c d) i d (step_at c d) fit (built_at d low) in
      let next : suc d ≡ d + 1 = omega arith in
      let more : Longer fs (fillings_then d fs) = longer (build_in c d) i d (step_at c d) fs in
      subst (λ n. AreHoused c ss i n (fillings_then d fs) (homes_then d fs h)) next
      (record {
        homes = record {
          node_count = a.node_count ∙ old.homes.node_count;
          rel_count = a.rel_count ∙ old.homes.rel_count;
          done = λ j e less there. (let o = old.homes.done j e less there in let before_it = o.0 in (omega (arith, before_it), still e o.0 j a.keeps o.1));
          free_nodes = λ v e. a.free_nodes v e ∙ old.homes.free_nodes v (less_node (step_at c d) (known c d) v e);
          free_rels = λ x e. a.free_rels x e ∙ old.homes.free_rels x (less_rel (step_at c d) (known c d) x e);
          columns = λ v j m e. still_column more v j m (a.columns v j m e);
          few = few_more d fs h old.homes.node_count old.homes.rel_count low old.homes.few;
          fillings = fillings_more c run h old.homes.node_count old.homes.rel_count (known c d) fs (build_in c d) ss i d number low (step_at c d) refl first fit (built_at d low) (λ v j m e. (old.homes.columns v j m e).inside) old.homes.fillings a;
        };
        here = λ e from below. at e from below a (cases_eq e d);
      })
    where
      still_column : Longer fs (fillings_then d fs) → (v j m : ℕ) → (node_home h v ≡ node.Column j m) ⊎ IsColumnOf (fillings_then d fs) j m → IsColumnOf (fillings_then d fs) j m
      still_column more v j m (inl is) =
          let was = old.homes.columns v j m is in
          record { inside = more.low m was.inside; group = ap column_group (more.same m was.inside) ∙ was.group }
      still_column more v j m (inr is) = is

      still : (e : ℕ) → e < d → (j : ℕ) → Keeps (known c d) h (homes_then d fs h) → IsHoused fs h j (step_at c e) → IsHoused (fillings_then d fs) (homes_then d fs h) j (step_at c e)
      still e less j keep is =
          stays_housed (known c d) fs (fillings_then d fs) h (homes_then d fs h) j (step_at c e) (known c e)
          (λ v has. later_node c (suc e) d v (omega (arith, less)) has) (λ x has. later_rel c (suc e) d x (omega (arith, less)) has) (longer (build_in c d) i d (step_at c d) fs) keep is

      at : (e : ℕ) → (group_at ss i).first ≤ e → e < suc d → Added c (build_in c d) i d (step_at c d) (known c d) fs h (homes_then d fs h) → (e ≡ d) ⊎ (e ≡ d → ⊥) → IsHoused (fillings_then d fs) (homes_then d fs h) i (step_at c e)
      at e from below a (inl same) = subst (λ n. IsHoused (fillings_then d fs) (homes_then d fs h) i (step_at c n)) (sym same) a.is
      at e from below a (inr other) = still e (omega (arith, below, other)) i a.keeps (old.here e from (omega (arith, below, other)))

  -- the group is done
  pub housed_group : (fs : List Filling) (h : Homes) → AreHoused c ss i (group_at ss i).end fs h → AreHomes c ss (i + 1) (group_at ss i).end fs h
  housed_group fs h old = record {
    node_count = old.homes.node_count;
    rel_count = old.homes.rel_count;
    done = λ j e less there. by j e less there (cases_eq j i);
    free_nodes = old.homes.free_nodes;
    free_rels = old.homes.free_rels;
    columns = old.homes.columns;
    few = old.homes.few;
    fillings = old.homes.fillings;
  }
    where
      by : (j e : ℕ) → j < i + 1 → InGroup ss j e → (j ≡ i) ⊎ (j ≡ i → ⊥) → (e < (group_at ss i).end) × IsHoused fs h j (step_at c e)
      by j e less there (inl same) =
          let here : InGroup ss i e = subst (λ n. InGroup ss n e) same there in
          subst (λ n. (e < (group_at ss i).end) × IsHoused fs h n (step_at c e)) (sym same) (here.high, old.here e here.low here.high)
      by j e less there (inr other) = old.homes.done j e (omega (arith, less, other)) there

-- before the first group nothing has a home
pub homes_none : (c : Run) (ss : List GroupSteps) (h : Homes) → length h.nodes ≡ length c.typed.nodes → length h.rels ≡ length c.typed.rels → ((v : ℕ) → node_home h v ≡ node.Nowhere) → ((x : ℕ) → rel_home h x ≡ rel.Nowhere) → AreHomes c ss 0 0 [] h
homes_none c ss h nodes rels no_node no_rel = record {
  node_count = nodes;
  rel_count = rels;
  done = λ j e less there. absurd (omega (arith, less));
  free_nodes = λ v e. no_node v;
  free_rels = λ x e. no_rel x;
  columns = λ v j m e. absurd (cc (sym (no_node v) ∙ e));
  few = omega arith;
  fillings = λ m low. absurd (omega (arith, low));
}

-- where the groups are tiles, each begins where the one before it ends
pub tile_next : (c : Run) (d : ℕ) (ss : List GroupSteps) → Tiles c d ss → (i : ℕ) → i + 1 < length ss → (group_at ss (i + 1)).first ≡ (group_at ss i).end
tile_next c d [] h i low = absurd (omega (arith, low))
tile_next c d (s ∷ []) h zero low = absurd (omega (arith, low))
tile_next c d (s ∷ t ∷ ss) h zero low = h.3.0
tile_next c d (s ∷ ss) h (suc i) low = let e : suc i + 1 ≡ suc (i + 1) = omega arith in ap (λ n. (group_at (s ∷ ss) n).first) e ∙ tile_next c s.end ss h.3 i (omega (arith, low))

pub tile_first : (c : Run) (d : ℕ) (ss : List GroupSteps) → Tiles c d ss → 0 < length ss → (group_at ss 0).first ≡ d
tile_first c d [] h low = absurd (omega (arith, low))
tile_first c d (s ∷ ss) h low = h.0

pub tile_last : (c : Run) (d : ℕ) (ss : List GroupSteps) → Tiles c d ss → (i : ℕ) → i + 1 ≡ length ss → (group_at ss i).end ≡ length c.steps
tile_last c d [] h i e = absurd (omega (arith, e))
tile_last c d (s ∷ []) h zero e = h.3
tile_last c d (s ∷ t ∷ ss) h zero e = absurd (omega (arith, e))
tile_last c d (s ∷ ss) h (suc i) e = tile_last c s.end ss h.3 i (omega (arith, e))

-- the next group begins behind the steps whose variables have homes
pub record Starts (c : Run) (ss : List GroupSteps) (i : ℕ) (fs : List Filling) (h : Homes) : Type 0 where
  pub d : ℕ
  pub first : i < length ss → (group_at ss i).first ≡ d
  pub last : i ≡ length ss → d ≡ length c.steps
  pub homes : AreHomes c ss i d fs h

pub starts_none : (c : Run) (ss : List GroupSteps) (h : Homes) → Tiles c 0 ss → length h.nodes ≡ length c.typed.nodes → length h.rels ≡ length c.typed.rels → ((v : ℕ) → node_home h v ≡ node.Nowhere) → ((x : ℕ) → rel_home h x ≡ rel.Nowhere) → Starts c ss 0 [] h
starts_none c ss h tiles nodes rels no_node no_rel = record { d = 0; first = λ low. tile_first c 0 ss tiles low; last = λ e. empty ss tiles e; homes = homes_none c ss h nodes rels no_node no_rel }
  where
    empty : (ss : List GroupSteps) → Tiles c 0 ss → 0 ≡ length ss → 0 ≡ length c.steps
    empty [] t e = t
    empty (s ∷ ss) t e = absurd (omega (arith, e))

pub starts_here : (c : Run) (ss : List GroupSteps) (i : ℕ) (fs : List Filling) (h : Homes) → i < length ss → Starts c ss i fs h → AreHomes c ss i (group_at ss i).first fs h
starts_here c ss i fs h low s = subst (λ n. AreHomes c ss i n fs h) (sym (s.first low)) s.homes

pub starts_next : (c : Run) (run : IsRun c) (ss : List GroupSteps) (i : ℕ) (fs : List Filling) (h : Homes) → Tiles c 0 ss → i < length ss → AreHoused c ss i (group_at ss i).end fs h → Starts c ss (i + 1) fs h
starts_next c run ss i fs h tiles low old = record {
  d = (group_at ss i).end;
  first = λ next. tile_next c 0 ss tiles i next;
  last = λ e. tile_last c 0 ss tiles i e;
  homes = housed_group c run ss i fs h old;
}

pub starts_all : (c : Run) (ss : List GroupSteps) (i : ℕ) (fs : List Filling) (h : Homes) → i ≡ length ss → Starts c ss i fs h → AreHomes c ss (length ss) (length c.steps) fs h
starts_all c ss i fs h e s = subst (λ n. AreHomes c ss n (length c.steps) fs h) e (subst (λ n. AreHomes c ss i n fs h) (s.last e) s.homes)

-- ---- which step of a group makes it

cut_checks : (c : Run) (ss : List GroupSteps) (i : ℕ) → AreCut (groups_in c ss) → i < length ss → NoGroups (group_in c.steps (group_at ss i)).checks
cut_checks c [] i cut low = absurd (omega (arith, low))
cut_checks c (s ∷ ss) zero cut low = cut.1
cut_checks c (s ∷ ss) (suc i) cut low = cut_checks c ss i cut.2 (omega (arith, low))

-- the first one alone
pub makes_first : (c : Run) (ss : List GroupSteps) (i d : ℕ) → Tiles c 0 ss → AreCut (groups_in c ss) → i < length ss → (group_at ss i).first ≤ d → d < (group_at ss i).end → makes_group (step_at c d) ≡ true → d ≡ (group_at ss i).first
makes_first c ss i d tiles cut low above below makes = by (cases_eq d s.first)
  where
    s : GroupSteps
    s = group_at ss i

    by : (d ≡ s.first) ⊎ (d ≡ s.first → ⊥) → d ≡ s.first
    by (inl same) = same
    by (inr other) =
        let inside = (tile_at c 0 ss tiles i low).inside in
        let there : s.first + 1 + (d - (s.first + 1)) ≡ d = omega (arith, above, other) in
        absurd (true≢false (sym makes ∙ ap (λ n. makes_group (step_at c n)) (sym there)
        ∙ none_at c.steps (s.first + 1) (s.end - (s.first + 1)) (d - (s.first + 1)) (cut_checks c ss i cut low) (omega (arith, above, below, other)) (omega (arith, above, below, other, inside))))
