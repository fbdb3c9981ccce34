-- Of a place of a flat group from whose node a later group follows a list to no node that its test passes, there is no walk.
use Rattle.std.proofs.Common.{◌≡◌, ℕ, zero, suc, ◌+◌, ◌-◌, ◌*◌, ◌/◌, ◌%◌, ◌<◌, ◌≤◌, Bool, true, false, ◌&&◌, cond, nat_eq, Some, None, Option, List, [], ◌∷◌, ◌++◌, length, map, drop, get_or, slice_get, refl, sym, ap, ap₂, ◌∙◌, subst, arith, inl, inr}
use Rattle.std.specs.Coded.{Coded-set, coded_ℕ, coded_list}
use Rattle.std.specs.List.{range_with_len}
use Rattle.std.specs.Prelude.{All, slice_index_or}
use Rattle.std.proofs.Math.Seq.{drop-nil}
use Rattle.std.proofs.Math.Logic.{∥∥₁_elim}
use Rattle.std.proofs.lemmas.Bool.{and_parts, eq-eqb, eqb-true}
use Rattle.std.proofs.lemmas.List.{append-nil, length-map, length-drop, get_or_default, get_or-map, get_or-drop}
use Rattle.std.proofs.lemmas.List.FromFn.{get_or-map-range_with_len, length-map-range_with_len}
use Rattle.std.proofs.lemmas.Option.{slice_get_within, get_or_from_slice_get}
use Rattle.gq_base.specs.Directions.{opposite}
use Rattle.gq_base.specs.Plain.{Graph, rows_at}
use Rattle.gq_base.specs.declared.NodeId.{NodeId}
use Rattle.gq_base.specs.declared.RelTable.{RelTable}
use Rattle.gq_base.specs.declared.direction.Direction.{Direction}
use Rattle.gq_base.specs.declared.direction.Direction.TheVariants.{Forward, Backward}
use Rattle.gq_bits.specs.Places.{is_marked}
use Rattle.gq_bits.specs.declared.TheConstants.{VECTOR}
use Rattle.gq_law_masks.specs.Nothing.{LeavesNothing, MakeNothing}
use Rattle.gq_law_masks.proofs.Masking as masking
use Rattle.gq_masks.specs.Masks.{may_reach}
use Rattle.gq_plan.specs.Assignments.{nodes_of}
use Rattle.gq_plan.specs.Covers.{after_step, fits_step, goes}
use Rattle.gq_plan.specs.Halves.{runs_step}
use Rattle.gq_plan.specs.Known.{Known, none}
use Rattle.gq_plan.specs.Meaning.{Partial, nothing, look, holds, nodes_for, with_node, step}
use Rattle.gq_plan.specs.Plans.{Scan, Extend}
use Rattle.gq_plan.specs.Rows.{node_table, table_of}
use Rattle.gq_plan.specs.declared.assignment.Assignment.{Assignment}
use Rattle.gq_plan.specs.declared.typed.Typed.{Typed}
use Rattle.gq_store.specs.Neighbours.{near_rows, neighbours}
use Rattle.gq_search.specs.Layouts.{IsPlace, number_of, walks}
use Rattle.gq_law_groups.specs.Layout.{ArePlaced, AreFlatEnough, known_with, size_from}
use Rattle.gq_law_groups.specs.Groups.{AreGroups, raw, raw_at}
use Rattle.gq_law_groups.proofs.Alike.{AreAlike}
use Rattle.gq_law_groups.proofs.Ending.{EndsAt, Ends, ends_none, nothing_behind, within-all}
use Rattle.gq_law_groups.proofs.Standing.{as_long}
use Rattle.gq_law_groups.proofs.Following.{zip_at, raw_alike}
use Rattle.gq_pipe.specs.declared.ahead.Ahead.{Ahead}
use Rattle.gq_pipe.specs.declared.ahead.Ahead.TheVariants.{Near, Far}
use Rattle.gq_pipe.specs.declared.sight.Sight.{Sight}
use Rattle.gq_pipe.specs.steps.Ahead.{AreAhead, EndsAmong, EndsHere, IsAhead}
use Rattle.gq_pipe.specs.steps.Sights.{HasRow, IsListed, IsNothing, IsSight, IsUnseen, Scans, StayOpen, may_pass}
use Rattle.gq_pipe.specs.steps.Told.{BindsNode}
use Rattle.gq_pipe.proofs.Asking.{refused_by}
use Rattle.gq_pipe.proofs.Nothing.{all_groups, ends_walks, leads_to, run_groups, tiles_inside}
use Rattle.gq_pipe.proofs.Reaching.{Reached, reached, binds_known}
use Rattle.gq_steps.specs.Groups.{no_group, group_at, group_in, groups_in}
use Rattle.gq_steps.specs.Levels.{Run, step_at, built_at, known, before}
use Rattle.gq_steps.specs.declared.group_steps.GroupSteps.{GroupSteps}
use Rattle.gq_plan.specs.declared.follow.Follow.{Follow}
use Rattle.gq_steps.specs.Moves.{IsRun}
use Rattle.gq_steps.specs.steps.Lists.{IsGrouped, flat_in, rows_in, layout_in, Stands}
use Rattle.gq_steps.proofs.Binding.{fits_at}
use Rattle.gq_steps.proofs.Followed as followed
use Rattle.gq_steps.proofs.Stepping.{Follows, follows}

-- the groups behind one
pub behind_more : {X : Type 0} (xs : List X) (n m : ℕ) → drop m (drop n xs) ≡ drop (n + m) xs
behind_more xs zero m = let same : m ≡ 0 + m = omega arith in ap (λ k. drop k xs) same
behind_more [] (suc n) m = ap (drop m) (drop-nil (suc n)) ∙ drop-nil m ∙ sym (drop-nil (suc n + m))
behind_more (x ∷ xs) (suc n) m = let same : suc (n + m) ≡ suc n + m = omega arith in behind_more xs n m ∙ ap (λ k. drop k (x ∷ xs)) same

-- a group, with those behind it, makes nothing of what is as this one, where its tests read what is known there
abbrev EndsPlaced : Run → (ℕ → List Partial) → Known → Partial → ℕ → GroupSteps → List GroupSteps → Type 0
EndsPlaced c rows k a n s rest =
    (p : Known) → ArePlaced c.graph.catalog c.typed (group_in c.steps s).checks (after_step (group_in c.steps s).binds p) → EndsAt c.graph c.typed rows n (group_in c.steps s) (groups_in c rest) k a

-- one of the later groups
ends_placed : (c : Run) (rows : ℕ → List Partial) (flat : ℕ → Bool) (i : ℕ) (ss : List GroupSteps) (k all : Known) (a : Partial) (q : ℕ) → q < length ss → AreFlatEnough c.graph.catalog c.typed flat i (groups_in c ss) all
    → EndsPlaced c rows k a (i + q) (group_at ss q) (drop (suc q) ss) → Ends c.graph c.typed rows i (groups_in c ss) k a
ends_placed c rows flat i [] k all a q low enough f = absurd (omega (arith, low))
ends_placed c rows flat i (s ∷ ss) k all a zero low enough f =
    let same : i + 0 ≡ i = omega arith in
    inl (subst (λ n. EndsAt c.graph c.typed rows n (group_in c.steps s) (groups_in c ss) k a) same (f all enough.1))
ends_placed c rows flat i (s ∷ ss) k all a (suc q) low enough f =
    let same : i + suc q ≡ i + 1 + q = omega arith in
    inr (ends_placed c rows flat (i + 1) ss k (known_with (flat i) (group_in c.steps s) all) a q (omega (arith, low)) enough.2
    (subst (λ n. EndsPlaced c rows k a n (group_at ss q) (drop (suc q) ss)) same f))

-- what is known where a flat group that binds a node stands, and enough for the groups behind it
record Behind (c : Run) (flat : ℕ → Bool) (n : ℕ) (rest : List GroupSteps) (v : ℕ) : Type 0 where
  pub all : Known
  pub enough : AreFlatEnough c.graph.catalog c.typed flat n (groups_in c rest) all
  pub known : all.nodes v ≡ true

flat_known : (c : Run) (f : Bool) (s : GroupSteps) (k : Known) (v : ℕ) → f ≡ true → BindsNode v (step_at c s.first) → (known_with f (group_in c.steps s) k).nodes v ≡ true
flat_known c true s k v is binds =
    (within-all (group_in c.steps s).checks (after_step (step_at c s.first) k) (after_step (step_at c s.first) k) (record { nodes = λ v i. i; rels = λ x i. i })).nodes v (binds_known (step_at c s.first) k v binds)
flat_known c false s k v is binds = cc is

behind : (c : Run) (flat : ℕ → Bool) (i d : ℕ) (ss : List GroupSteps) (k : Known) (v : ℕ) → d < length ss → AreFlatEnough c.graph.catalog c.typed flat i (groups_in c ss) k → flat (i + d) ≡ true → BindsNode v (step_at c (group_at ss d).first)
    → Behind c flat (i + suc d) (drop (suc d) ss) v
behind c flat i d [] k v low enough is_flat binds = absurd (omega (arith, low))
behind c flat i zero (s ∷ ss) k v low enough is_flat binds =
    let same : i + 1 ≡ i + suc 0 = omega arith in
    let at : i + 0 ≡ i = omega arith in
    subst (λ n. Behind c flat n ss v) same
    (record { all = known_with (flat i) (group_in c.steps s) k; enough = enough.2; known = flat_known c (flat i) s k v (ap flat (sym at) ∙ is_flat) binds })
behind c flat i (suc d) (s ∷ ss) k v low enough is_flat binds =
    let same : i + 1 + suc d ≡ i + suc (suc d) = omega arith in
    let at : i + 1 + d ≡ i + suc d = omega arith in
    subst (λ n. Behind c flat n (drop (suc d) ss) v) same
    (behind c flat (i + 1) d ss (known_with (flat i) (group_in c.steps s) k) v (omega (arith, low)) enough.2 (ap flat at ∙ is_flat) binds)

groups_behind : (c : Run) (rows : ℕ → List Partial) (i d : ℕ) (ss : List GroupSteps) → d < length ss → AreGroups c.graph c.typed rows i (groups_in c ss) → AreGroups c.graph c.typed rows (i + suc d) (groups_in c (drop (suc d) ss))
groups_behind c rows i d [] low are = absurd (omega (arith, low))
groups_behind c rows i zero (s ∷ ss) low are = let same : i + 1 ≡ i + suc 0 = omega arith in subst (λ n. AreGroups c.graph c.typed rows n (groups_in c ss)) same are.2
groups_behind c rows i (suc d) (s ∷ ss) low are =
    let same : i + 1 + suc d ≡ i + suc (suc d) = omega arith in
    subst (λ n. AreGroups c.graph c.typed rows n (groups_in c (drop (suc d) ss))) same (groups_behind c rows (i + 1) d ss (omega (arith, low)) are.2)

abbrev row_node : ℕ → ℕ → NodeId
row_node table row = record { table = table; row = row }

-- a place of a scan is that row
module _ (g : Graph) (y : Typed) (rows : List Partial) (v : ℕ) (a : Partial) (j : ℕ) where
  nodes_are : (table : ℕ) → slice_get y.nodes v ≡ Some table → nodes_for g y v ≡ nodes_of g table
  nodes_are table is = rw is refl

  no_nodes : slice_get y.nodes v ≡ None → nodes_for g y v ≡ []
  no_nodes is = rw is refl

  node_there : (table : ℕ) → slice_get y.nodes v ≡ Some table → j < length (map (λ n. with_node v n a) (nodes_of g table)) → look (get_or (map (λ n. with_node v n a) (nodes_of g table)) j nothing).nodes v ≡ Some (record { table = node_table y v; row = j })
  unfolding nodes_of
  node_there table is low =
      let many = length-map-range_with_len (row_node table) 0 (length (rows_at g table)) in
      let all = length-map (map (row_node table) (range_with_len 0 (length (rows_at g table)))) (λ n. with_node v n a) in
      let inside : j < length (rows_at g table) = omega (arith, low, many, all) in
      let at : get_or (map (row_node table) (range_with_len 0 (length (rows_at g table)))) j (row_node table j) ≡ row_node table j = get_or-map-range_with_len (row_node table) 0 (length (rows_at g table)) j j (row_node table j) inside (omega arith) in
      ap (λ (e : Partial). look e.nodes v) (get_or-map (λ n. with_node v n a) (map (row_node table) (range_with_len 0 (length (rows_at g table)))) j (row_node table j) nothing (omega (arith, inside, many)))
      ∙ ap (λ b. cond b (Some (get_or (map (row_node table) (range_with_len 0 (length (rows_at g table)))) j (row_node table j))) (look a.nodes v)) (eq-eqb v v refl)
      ∙ ap Some (at ∙ ap (λ t. row_node t j) (sym (get_or_from_slice_get y.nodes v table 0 is)))

  pub scan_there : j < length (raw g y rows (Scan v) a) → look (get_or (raw g y rows (Scan v) a) j nothing).nodes v ≡ Some (record { table = node_table y v; row = j })
  unfolding step
  scan_there low = go (slice_get y.nodes v) refl
    where
      go : (o : Option ℕ) → slice_get y.nodes v ≡ o → look (get_or (map (λ n. with_node v n a) (nodes_for g y v)) j nothing).nodes v ≡ Some (record { table = node_table y v; row = j })
      go None is = (let none : j < 0 = subst (λ ns. j < length (map (λ n. with_node v n a) ns)) (no_nodes is) low in absurd (omega (arith, none)))
      go (Some table) is =
          subst (λ ns. look (get_or (map (λ n. with_node v n a) ns) j nothing).nodes v ≡ Some (record { table = node_table y v; row = j })) (sym (nodes_are table is))
          (node_there table is (subst (λ ns. j < length (map (λ n. with_node v n a) ns)) (nodes_are table is) low))

-- the tables of relationships that are followed
same_far : (way : Direction) (t : RelTable) → followed.far_table way t ≡ masking.far_table way t
same_far Forward t = refl
same_far Backward t = refl

goes_on : (c : Run) (k : Known) (x from to : ℕ) (way : Direction) → runs_step c.graph.catalog c.typed (Extend false x from to way) k ≡ true → holds (goes c.graph.catalog false from to way) (slice_get c.typed.rels x) ≡ true
unfolding fits_step
goes_on c k x from to way fit = (and_parts (holds (goes c.graph.catalog false from to way) (slice_get c.typed.rels x)) _ fit).0

off_alone : (a : Bool) → (a && true) ≡ false → a ≡ false
off_alone true h = h
off_alone false h = refl

-- ---- rows that a mask does not have

module _ (c : Run) (ss : List GroupSteps) (d : ℕ) (run : IsRun c) (grouped : IsGrouped c ss) (t : Sight) (told : IsSight c ss d t) where
  follow : Follows c told.rel t.node t.far told.way
  follow =
      let inside = tiles_inside c 0 ss t.later grouped.tiles told.inside in
      follows c run false told.rel t.node t.far told.way
      (goes_on c (known c (group_at ss t.later).first) told.rel t.node t.far told.way
      (subst (λ s. runs_step c.graph.catalog c.typed s (known c (group_at ss t.later).first) ≡ true) told.follows (fits_at c run (group_at ss t.later).first inside)))

  table_is : t.mask.table ≡ follow.found.table
  table_is = told.table ∙ ap table_of follow.rel_is

  -- of a row that is not chosen the later group leaves nothing
  left : (p : Known) → ArePlaced c.graph.catalog c.typed (group_in c.steps (group_at ss t.later)).checks (after_step (group_in c.steps (group_at ss t.later)).binds p) → (q : ℕ)
      → (may_pass c t.group t.far q && told.seen.live q) ≡ false → LeavesNothing c.graph c.typed (rows_in c ss) t.later (group_in c.steps (group_at ss t.later)) (groups_in c (drop (t.later + 1) ss)) t.far (masking.row_of c.typed t.far q)
  left p placed q off = by (told.seen.live q) refl (subst (λ s. (may_pass c s t.far q && told.seen.live q) ≡ false) told.group off)
    where
      by : (b : Bool) → told.seen.live q ≡ b → (may_pass c (group_at ss t.later) t.far q && b) ≡ false
          → LeavesNothing c.graph c.typed (rows_in c ss) t.later (group_in c.steps (group_at ss t.later)) (groups_in c (drop (t.later + 1) ss)) t.far (masking.row_of c.typed t.far q)
      by false is h =
          masking.behind_leaves c.graph c.typed (rows_in c ss) t.later (group_in c.steps (group_at ss t.later)) (groups_in c (drop (t.later + 1) ss)) p told.rel t.node t.far told.way told.follows placed q
          (told.seen.nothing q is run grouped)
      by true is h =
          let one = refused_by c t.far q (group_in c.steps (group_at ss t.later)).checks (off_alone (may_pass c (group_at ss t.later) t.far q) h) in
          masking.test_leaves c.graph c.typed (rows_in c ss) t.later (group_in c.steps (group_at ss t.later)) (groups_in c (drop (t.later + 1) ss)) p told.rel t.node t.far told.way told.follows placed q
          one.test one.asks one.alone one.off

  module _ (own : ℕ) (unseen : IsUnseen t own) where
    whole : near_rows c.graph follow.found.table (opposite told.way) ≤ t.mask.told
    whole =
        subst (λ g. near_rows g follow.found.table (opposite told.way) ≤ t.mask.told) told.graph
        (subst (λ n. near_rows t.mask.graph n (opposite told.way) ≤ t.mask.told) table_is
        (subst (λ d. near_rows t.mask.graph t.mask.table d ≤ t.mask.told) told.direction unseen.whole))

    are : (q : ℕ) → q < t.mask.told → (may_pass c t.group t.far q && told.seen.live q) ≡ true → All (λ r. may_reach t.mask r ≡ true) (neighbours c.graph follow.found.table (opposite told.way) q)
    are q under on =
        subst (λ g. All (λ r. may_reach t.mask r ≡ true) (neighbours g follow.found.table (opposite told.way) q)) told.graph
        (subst (λ n. All (λ r. may_reach t.mask r ≡ true) (neighbours t.mask.graph n (opposite told.way) q)) table_is
        (subst (λ d. All (λ r. may_reach t.mask r ≡ true) (neighbours t.mask.graph t.mask.table d q)) told.direction (told.seen.reached q under on)))

    at_later : (k : Known) (a : Partial) → k.nodes t.node ≡ true → look a.nodes t.node ≡ Some (masking.row_of c.typed t.node own) → EndsPlaced c (rows_in c ss) k a t.later (group_at ss t.later) (drop (t.later + 1) ss)
    at_later k a known here p placed =
        masking.masked_end c.graph c.typed (rows_in c ss) t.later (group_in c.steps (group_at ss t.later)) (groups_in c (drop (t.later + 1) ss)) k a told.rel t.node t.far told.way follow.found follow.table (masking.row_of c.typed t.node own)
        (λ q. may_pass c t.group t.far q && told.seen.live q) (may_reach t.mask) t.mask.told
        follow.rel_is follow.table_at run.valid (slice_get_within c.graph.catalog.rels follow.found.table follow.table follow.table_at) (follow.far ∙ ap Some (same_far told.way follow.table)) whole are
        told.follows (left p placed) known here unseen.off

    -- so the groups behind its own one end there
    ends_behind : (n : ℕ) (rest : List GroupSteps) (all k : Known) (a : Partial) → n ≡ d + 1 → drop (d + 1) ss ≡ rest → AreFlatEnough c.graph.catalog c.typed (flat_in ss) n (groups_in c rest) all
        → k.nodes t.node ≡ true → look a.nodes t.node ≡ Some (masking.row_of c.typed t.node own) → Ends c.graph c.typed (rows_in c ss) n (groups_in c rest) k a
    ends_behind n rest all k a number rest_is enough known here =
        let behind = told.behind in
        let inside = told.inside in
        let long : length rest ≡ length ss - (d + 1) = ap length (sym rest_is) ∙ length-drop (d + 1) ss in
        let at : d + 1 + (t.later - (d + 1)) ≡ t.later = omega (arith, behind) in
        let next : d + 1 + suc (t.later - (d + 1)) ≡ t.later + 1 = omega (arith, behind) in
        let index : t.later ≡ n + (t.later - (d + 1)) = omega (arith, behind, number) in
        let later_is : group_at ss t.later ≡ group_at rest (t.later - (d + 1)) =
        ap (group_at ss) (sym at) ∙ sym (get_or-drop (d + 1) ss (t.later - (d + 1)) no_group) ∙ ap (λ r. group_at r (t.later - (d + 1))) rest_is in
        let behind_is : drop (t.later + 1) ss ≡ drop (suc (t.later - (d + 1))) rest =
        ap (λ m. drop m ss) (sym next) ∙ sym (behind_more ss (d + 1) (suc (t.later - (d + 1)))) ∙ ap (drop (suc (t.later - (d + 1)))) rest_is in
        ends_placed c (rows_in c ss) (flat_in ss) n rest k all a (t.later - (d + 1)) (omega (arith, long, behind, inside)) enough
        (subst (λ m. EndsPlaced c (rows_in c ss) k a m (group_at rest (t.later - (d + 1))) (drop (suc (t.later - (d + 1))) rest)) index
        (subst (λ s. EndsPlaced c (rows_in c ss) k a t.later s (drop (suc (t.later - (d + 1))) rest)) later_is
        (subst (λ r. EndsPlaced c (rows_in c ss) k a t.later (group_at ss t.later) r) behind_is (at_later k a known here))))

    -- that node alone
    abbrev only : Known
    only = record { nodes = λ v. nat_eq v t.node; rels = λ x. false }

    abbrev alone : Partial
    alone = with_node t.node (masking.row_of c.typed t.node own) nothing

    only_is : (v : ℕ) → nat_eq v t.node ≡ true → v ≡ t.node
    only_is v h = eqb-true v t.node h

    alone_there : look alone.nodes t.node ≡ Some (masking.row_of c.typed t.node own)
    alone_there = ap (λ b. cond b (Some (masking.row_of c.typed t.node own)) None) (eq-eqb t.node t.node refl)

    -- where the node has that row, they make nothing
    pub makes_nothing : MakeNothing c.graph c.typed (rows_in c ss) (d + 1) (groups_in c (drop (d + 1) ss)) t.node (masking.row_of c.typed t.node own)
    makes_nothing e there =
        let first = told.behind in
        let inside = told.inside in
        let low : d < length ss = omega (arith, first, inside) in
        let number : 0 + suc d ≡ d + 1 = omega arith in
        let next : suc d ≡ d + 1 = omega arith in
        let at : 0 + d ≡ d = omega arith in
        let b : Behind c (flat_in ss) (d + 1) (drop (d + 1) ss) t.node =
        subst (λ n. Behind c (flat_in ss) (d + 1) (drop n ss) t.node) next (subst (λ n. Behind c (flat_in ss) n (drop (suc d) ss) t.node) number
        (behind c (flat_in ss) 0 d ss none t.node low grouped.enough (ap (flat_in ss) at ∙ told.flat) told.binds)) in
        let groups : AreGroups c.graph c.typed (rows_in c ss) (d + 1) (groups_in c (drop (d + 1) ss)) =
        subst (λ n. AreGroups c.graph c.typed (rows_in c ss) (d + 1) (groups_in c (drop n ss))) next (subst (λ n. AreGroups c.graph c.typed (rows_in c ss) n (groups_in c (drop (suc d) ss))) number
        (groups_behind c (rows_in c ss) 0 d ss low (run_groups c ss run grouped))) in
        ends_none c.graph c.typed (rows_in c ss) (flat_in ss) (d + 1) (groups_in c (drop (d + 1) ss)) only b.all alone e
        (ends_behind (d + 1) (drop (d + 1) ss) b.all only alone refl refl b.enough (eq-eqb t.node t.node refl) alone_there)
        (record { nodes = λ v h. subst (λ n. b.all.nodes n ≡ true) (sym (only_is v h)) b.known; rels = λ x h. cc h }) groups b.enough
        (record { nodes = λ v h. ap (look alone.nodes) (only_is v h) ∙ alone_there ∙ sym there ∙ ap (look e.nodes) (sym (only_is v h)); rels = λ x h. cc h })

module _ (c : Run) (ss : List GroupSteps) (row : Assignment) (pre : List ℕ) (st : Stands c ss row pre) (low : length pre < length ss) (t : Sight) (told : IsSight c ss (length pre) t) where
  here : Reached c (rows_in c ss) (flat_in ss) row (layout_in c ss) 0 0 ss none [] pre
  here = reached c (rows_in c ss) (flat_in ss) row (layout_in c ss) ss 0 0 none nothing [] pre st.grouped.tiles
      (record { flats = λ q. (let e : length q ≡ 0 + length q = omega arith in ap (flat_in ss) e); size = λ q. refl; keeps = λ q j. refl })
      (all_groups c ss row pre st)
      st.grouped.enough low st.chain

  first_low : here.s.first < length c.steps
  first_low = let some = here.some in let inside = here.inside in omega (arith, some, inside)

  binds : BindsNode t.node (step_at c here.s.first)
  binds = subst (λ (s : GroupSteps). BindsNode t.node (step_at c s.first)) here.is told.binds

  alike : AreAlike here.set here.bound (before c row here.s.first)
  alike = record { nodes = here.at.bound.nodes; rels = here.at.bound.rels }

  -- the groups behind it
  rest_is : drop (length pre + 1) ss ≡ here.rest
  rest_is = let at : suc (length pre) ≡ length pre + 1 = omega arith in subst (λ n. drop n ss ≡ here.rest) at here.behind

  rest_long : length here.rest ≡ length ss - (length pre + 1)
  rest_long = ap length (sym rest_is) ∙ length-drop (length pre + 1) ss

  module _ (j own : ℕ) (there : HasRow c here.s.first row j own) (unseen : IsUnseen t own) (in_list : j < (layout_in c ss).size pre) (kept : (layout_in c ss).keeps pre j ≡ true) (is_flat : (layout_in c ss).flat pre ≡ true) where
    rows_here : rows_in c ss (0 + length pre) ≡ built_at c here.s.first
    rows_here = let same : 0 + length pre ≡ length pre = omega arith in ap (rows_in c ss) same ∙ ap (λ (s : GroupSteps). built_at c s.first) here.is

    fit : runs_step c.graph.catalog c.typed (step_at c here.s.first) here.set ≡ true
    fit = here.enough.0

    size_is : j < length (raw c.graph c.typed (rows_in c ss (0 + length pre)) (step_at c here.s.first) here.bound)
    unfolding size_from
    size_is = subst (λ n. j < n) (ap (layout_in c ss).size (sym (append-nil pre)) ∙ here.tail.size []) in_list

    own_known : (after_step (step_at c here.s.first) here.set).nodes t.node ≡ true
    own_known = binds_known (step_at c here.s.first) here.set t.node binds

    scanned : Scans c here.s.first → own ≡ j → look (raw_at c.graph c.typed (rows_in c ss (0 + length pre)) (group_in c.steps here.s) here.bound j).nodes t.node ≡ Some (record { table = node_table c.typed t.node; row = own })
    scanned (v, is) same =
        let node_is : v ≡ t.node = subst (BindsNode t.node) is binds in
        let long : j < length (raw c.graph c.typed (rows_in c ss (0 + length pre)) (Scan v) here.bound) = subst (λ s. j < length (raw c.graph c.typed (rows_in c ss (0 + length pre)) s here.bound)) is size_is in
        subst (λ n. look (raw_at c.graph c.typed (rows_in c ss (0 + length pre)) (group_in c.steps here.s) here.bound j).nodes n ≡ Some (record { table = node_table c.typed n; row = own })) node_is
        (ap (λ s. look (get_or (raw c.graph c.typed (rows_in c ss (0 + length pre)) s here.bound) j nothing).nodes v) is
        ∙ scan_there c.graph c.typed (rows_in c ss (0 + length pre)) v here.bound j long
        ∙ ap (λ (r : ℕ). Some (record { table = node_table c.typed v; row = r })) (sym same))

    listed : IsListed c here.s.first row j own → look (raw_at c.graph c.typed (rows_in c ss (0 + length pre)) (group_in c.steps here.s) here.bound j).nodes t.node ≡ Some (record { table = node_table c.typed t.node; row = own })
    listed h =
        let f : Follow = h.follow in
        let node_is : h.follow.to ≡ t.node = subst (BindsNode t.node) h.follows binds in
        let known_to : (after_step (step_at c here.s.first) here.set).nodes h.follow.to ≡ true = subst (λ n. (after_step (step_at c here.s.first) here.set).nodes n ≡ true) (sym node_is) own_known in
        let zipped = raw_alike c.graph c.typed (rows_in c ss (0 + length pre)) (step_at c here.s.first) here.set here.bound (before c row here.s.first) here.are.0 fit alike in
        subst (λ n. look (raw_at c.graph c.typed (rows_in c ss (0 + length pre)) (group_in c.steps here.s) here.bound j).nodes n ≡ Some (record { table = node_table c.typed n; row = own })) node_is
        ((zip_at (AreAlike (after_step (step_at c here.s.first) here.set)) (raw c.graph c.typed (rows_in c ss (0 + length pre)) (step_at c here.s.first) here.bound) (raw c.graph c.typed (rows_in c ss (0 + length pre)) (step_at c here.s.first) (before c row here.s.first)) zipped j size_is).nodes h.follow.to known_to
        ∙ ap (λ (r : List Partial). look (get_or (raw c.graph c.typed r (step_at c here.s.first) (before c row here.s.first)) j nothing).nodes h.follow.to) rows_here
        ∙ leads_to c st.runs here.s.first first_low row here.at.held h.follow h.follows (built_at c here.s.first) here.set j own fit h.there h.inside h.few
        (subst (λ (r : List Partial). j < length (raw c.graph c.typed r (step_at c here.s.first) (before c row here.s.first))) rows_here
        (subst (λ n. j < n) (sym (as_long c.graph c.typed (rows_in c ss (0 + length pre)) (group_in c.steps here.s) here.set here.bound (before c row here.s.first) here.are.0 fit here.enough.1 alike)) size_is)))

    own_there : look (raw_at c.graph c.typed (rows_in c ss (0 + length pre)) (group_in c.steps here.s) here.bound j).nodes t.node ≡ Some (record { table = node_table c.typed t.node; row = own })
    own_there = by there
      where
        by : HasRow c here.s.first row j own → look (raw_at c.graph c.typed (rows_in c ss (0 + length pre)) (group_in c.steps here.s) here.bound j).nodes t.node ≡ Some (record { table = node_table c.typed t.node; row = own })
        by (inl h) = scanned h.0 h.1
        by (inr h) = listed h

    ends : Ends c.graph c.typed (rows_in c ss) (0 + length pre + 1) (groups_in c here.rest) (after_step (step_at c here.s.first) here.set) (raw_at c.graph c.typed (rows_in c ss (0 + length pre)) (group_in c.steps here.s) here.bound j)
    ends =
        let number : 0 + length pre + 1 ≡ length pre + 1 = omega arith in
        ends_behind c ss (length pre) st.runs st.grouped t told own unseen (0 + length pre + 1) here.rest (known_with (flat_in ss (0 + length pre)) (group_in c.steps here.s) here.set)
        (after_step (step_at c here.s.first) here.set) (raw_at c.graph c.typed (rows_in c ss (0 + length pre)) (group_in c.steps here.s) here.bound j) number rest_is here.enough.2 own_known own_there

    nothing_there : walks (layout_in c ss) (length ss - (length pre + 1)) (pre ++ j ∷ []) ≡ []
    nothing_there =
        let many : length (groups_in c here.rest) ≡ length ss - (length pre + 1) = length-map here.rest (group_in c.steps) ∙ rest_long in
        let same : number_of ((layout_in c ss).flat pre) j ≡ j = ap (λ f. number_of f j) is_flat in
        let here_flat : flat_in ss (0 + length pre) ≡ true = (let at : 0 + length pre ≡ length pre = omega arith in ap (flat_in ss) at ∙ is_flat) in
        subst (λ n. walks (layout_in c ss) n (pre ++ j ∷ []) ≡ []) many
        (subst (λ n. walks (layout_in c ss) (length (groups_in c here.rest)) (pre ++ n ∷ []) ≡ []) same
        (nothing_behind c.graph c.typed (rows_in c ss) (flat_in ss) (layout_in c ss) (group_in c.steps here.s) (groups_in c here.rest) pre (0 + length pre) here.set here.bound here.tail here.are here.enough j in_list kept here_flat ends))

-- the same by the group that the program has
unseen_walks : (c : Run) (ss : List GroupSteps) (row : Assignment) (depth : ℕ) (inside : depth < length ss) (x : GroupSteps) (found : x ≡ slice_index_or ss depth x) (pre : List ℕ) (long : length pre ≡ depth) (st : Stands c ss row pre)
    (t : Sight) (told : IsSight c ss depth t) (j own : ℕ) → HasRow c x.first row j own → IsUnseen t own → IsPlace (layout_in c ss) pre j j → (layout_in c ss).flat pre ≡ true
    → walks (layout_in c ss) (length ss - (depth + 1)) (pre ++ j ∷ []) ≡ []
unseen_walks c ss row depth inside x found pre long st t told j own there unseen place flat =
    let low : length pre < length ss = omega (arith, long, inside) in
    let told_here : IsSight c ss (length pre) t = subst (λ n. IsSight c ss n t) (sym long) told in
    let group_is : x ≡ group_at ss (length pre) = found ∙ sym (get_or_default ss depth no_group x inside) ∙ ap (group_at ss) (sym long) in
    subst (λ n. walks (layout_in c ss) (length ss - (n + 1)) (pre ++ j ∷ []) ≡ []) long
    (nothing_there c ss row pre st low t told_here j own
    (subst (λ (s : GroupSteps). HasRow c s.first row j own) (group_is ∙ (here c ss row pre st low t told_here).is) there) unseen place.inside place.kept flat)

-- of a place of which a later group makes nothing there is no walk
pub ahead_walks : (c : Run) (ss : List GroupSteps) (row : Assignment) (ts : List (Option Ahead)) (depth : ℕ) (inside : depth < length ss) (x : GroupSteps) (found : x ≡ slice_index_or ss depth x) (pre : List ℕ) (long : length pre ≡ depth) (st : Stands c ss row pre)
    (j : ℕ) → EndsAmong c x.first row j depth ts → IsPlace (layout_in c ss) pre j j → (layout_in c ss).flat pre ≡ true
    → ∥ AreAhead c ss ts ∥₁ → walks (layout_in c ss) (length ss - (depth + 1)) (pre ++ j ∷ []) ≡ []
ahead_walks c ss row ts depth inside x found pre long st j (u, there, ends) place flat told =
    ∥∥₁_elim told (Coded-set (coded_list (coded_list coded_ℕ)) _ _) (λ are. by u (are depth u there) ends)
  where
    by : (u : Ahead) → IsAhead c ss depth u → EndsHere c x.first row j u → walks (layout_in c ss) (length ss - (depth + 1)) (pre ++ j ∷ []) ≡ []
    by (Near w) h e = ends_walks c ss row depth inside x found pre long st w h e.0 e.1 j e.2 place flat
    by (Far w) h e = unseen_walks c ss row depth inside x found pre long st w h j e.0 e.1 e.2 place flat

-- ---- masks that keep the rows that another one has

-- of a row that the mask of a group does not have, which is told of all, the groups behind it make nothing
pub lacks_none : (c : Run) (ss : List GroupSteps) (ts : List (Option Ahead)) (later far : ℕ) (u : Sight) → AreAhead c ss ts → slice_get ts later ≡ Some (Some (Far u)) → u.node ≡ far → near_rows u.mask.graph u.mask.table u.mask.direction ≤ u.mask.told
    → (q : ℕ) → may_reach u.mask q ≡ false → IsNothing c ss later far q
lacks_none c ss ts later far u are there same whole q off =
    subst (λ v. IsNothing c ss later v q) same (λ run grouped. makes_nothing c ss later run grouped u (are later (Far u) there) q (record { whole = whole; off = off }))

pub kept_open : (c : Run) (ss : List GroupSteps) (ts : List (Option Ahead)) (t u : Sight) (low : ℕ) (old new : List Bool) → AreAhead c ss ts → slice_get ts t.later ≡ Some (Some (Far u)) → u.node ≡ t.far
    → near_rows u.mask.graph u.mask.table u.mask.direction ≤ u.mask.told → low ≡ t.mask.told → low % VECTOR ≡ 0
    → ((k : ℕ) → k < VECTOR → is_marked new k ≡ (is_marked old k && may_reach u.mask (VECTOR * (low / VECTOR) + k))) → StayOpen c ss t old new
kept_open c ss ts t u low old new are there same whole is even kept = record {
  live = may_reach u.mask;
  nothing = λ q off. lacks_none c ss ts t.later t.far u are there same whole q off;
  stay = λ k under on live. (let at : VECTOR * (low / VECTOR) + k ≡ t.mask.told + k = omega (arith, is, even) in
      kept k under ∙ ap₂ (λ a b. a && b) on (ap (may_reach u.mask) at ∙ live));
}
