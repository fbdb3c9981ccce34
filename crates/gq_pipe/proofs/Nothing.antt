-- Of a place of a list of which a later group makes nothing, since it closes at a node to which no relationship leads, there is no walk.
use Rattle.std.proofs.Common.{◌≡◌, ℕ, zero, suc, ◌+◌, ◌-◌, ◌^◌, ◌<◌, true, false, cond, Some, List, [], ◌∷◌, ◌++◌, length, map, drop, get_or, slice_get, refl, sym, ap, ◌∙◌, subst, arith, inl, inr}
use Rattle.std.specs.Prelude.{slice_index, slice_index_or}
use Rattle.std.proofs.lemmas.Bool.{and_parts, eq-eqb}
use Rattle.std.proofs.lemmas.List.{append-nil, length-map, length-drop, get_or_default, get_or-map, get_or-set_same, get_or-drop}
use Rattle.std.proofs.lemmas.Option.{slice_get_within}
use Rattle.gq_base.specs.Directions.{opposite}
use Rattle.gq_base.specs.declared.RelTable.{RelTable}
use Rattle.gq_base.specs.declared.direction.Direction.{Direction}
use Rattle.gq_near.specs.Rows.{stands_in}
use Rattle.gq_plan.specs.Covers.{after_step, fits_step, goes}
use Rattle.gq_plan.specs.Halves.{Runs, runs_step}
use Rattle.gq_plan.specs.Known.{Known, none}
use Rattle.gq_plan.specs.Meaning.{Partial, nothing, look, holds}
use Rattle.gq_plan.specs.Plans.{Step, Extend, Close}
use Rattle.gq_plan.specs.Rows.{node_at, node_table, rel_table, table_of}
use Rattle.gq_plan.specs.declared.assignment.Assignment.{Assignment}
use Rattle.gq_plan.specs.declared.typed.TypedRel.{TypedRel}
use Rattle.gq_store.specs.Neighbours.{near_rows, neighbours}
use Rattle.gq_search.specs.Layouts.{IsPlace, number_of, walks}
use Rattle.gq_law_groups.specs.Layout.{size_from}
use Rattle.gq_law_groups.specs.Groups.{Group, AreGroups, makes_group, own, raw, raw_at}
use Rattle.gq_homes.specs.Cuts.{TilesTo}
use Rattle.gq_homes.proofs.Cutting.{tiles_plan}
use Rattle.gq_law_groups.proofs.Cutting.{are_groups}
use Rattle.gq_law_groups.proofs.Alike.{AreAlike}
use Rattle.gq_law_groups.proofs.Ending.{EndsAt, Ends, nothing_behind}
use Rattle.gq_law_groups.proofs.Standing.{as_long}
use Rattle.gq_law_groups.proofs.Following.{known_node, zip_at, each_at, raw_alike, raw_keeps}
use Rattle.gq_pipe.specs.declared.closing.Closing.{Closing}
use Rattle.gq_pipe.specs.steps.Closings.{IsClosing}
use Rattle.gq_pipe.specs.steps.Told.{Closes, HasNothing}
use Rattle.gq_pipe.proofs.Lacking.{lacking}
use Rattle.gq_pipe.proofs.Reaching.{Reached, reached, binds_known, later_known}
use Rattle.gq_pipe.proofs.Resting.{have_rows}
use Rattle.gq_steps.specs.Follows.{CanList}
use Rattle.gq_steps.specs.Groups.{Tiles, no_group, group_at, group_in, groups_in}
use Rattle.gq_steps.specs.Levels.{Run, step_at, built_at, known, before, taken}
use Rattle.gq_steps.specs.Moves.{IsRun, IsHeld, IsMade}
use Rattle.gq_steps.specs.Tries.{tries}
use Rattle.gq_steps.specs.declared.group_steps.GroupSteps.{GroupSteps}
use Rattle.gq_plan.specs.declared.follow.Follow.{Follow}
use Rattle.gq_steps.specs.declared.plan_run.Tried.TheVariants.{Made}
use Rattle.gq_steps.specs.steps.Lists.{IsGrouped, flat_in, rows_in, layout_in, Stands}
use Rattle.gq_steps.specs.steps.Outcomes.{with_number, with_row}
use Rattle.gq_steps.proofs.Binding.{fits_at}
use Rattle.gq_steps.proofs.Hopping.{hop_there}
use Rattle.gq_steps.proofs.Piecing.{listed_is}
use Rattle.gq_steps.proofs.Stepping.{follows}
use Rattle.gq_steps.proofs.Trying as trying
use Rattle.gq_steps.proofs.Whole.{one_if, raw_tries}

run_tiles : (c : Run) (from : ℕ) (ss : List GroupSteps) → Tiles c from ss → TilesTo c.steps from ss (length c.steps)
run_tiles c from [] h = h
run_tiles c from (s ∷ ss) h = (h.0, h.1, h.2, run_tiles c s.end ss h.3)

pub run_groups : (c : Run) (ss : List GroupSteps) → IsRun c → IsGrouped c ss → AreGroups c.graph c.typed (rows_in c ss) 0 (groups_in c ss)
run_groups c ss run grouped =
    are_groups c.graph c.typed run.valid (rows_in c ss) 0 (groups_in c ss) none grouped.cut (subst (Runs c.graph.catalog c.typed) (sym (tiles_plan c.steps 0 ss (run_tiles c 0 ss grouped.tiles))) run.fits)
    (have_rows c run ss ss 0 0 (λ k below. let same : 0 + k ≡ k = omega arith in ap (group_at ss) same) grouped.tiles)

pub all_groups : (c : Run) (ss : List GroupSteps) (row : Assignment) (pre : List ℕ) → Stands c ss row pre → AreGroups c.graph c.typed (rows_in c ss) 0 (groups_in c ss)
all_groups c ss row pre st = run_groups c ss st.runs st.grouped

-- one of the later groups
ends_later : (c : Run) (rows : ℕ → List Partial) (i : ℕ) (ss : List GroupSteps) (k : Known) (a : Partial) (q : ℕ) → q < length ss
    → ((n : ℕ) (gs : List Group) → EndsAt c.graph c.typed rows n (group_in c.steps (group_at ss q)) gs k a) → Ends c.graph c.typed rows i (groups_in c ss) k a
ends_later c rows i [] k a q low f = absurd (omega (arith, low))
ends_later c rows i (s ∷ ss) k a zero low f = inl (f i (groups_in c ss))
ends_later c rows i (s ∷ ss) k a (suc q) low f = inr (ends_later c rows (i + 1) ss k a q (omega (arith, low)) f)

at_first : (xs : List (List Partial)) (n : ℕ) (x : List Partial) (rest : List (List Partial)) → drop n xs ≡ x ∷ rest → get_or xs n [] ≡ x
at_first [] zero x rest e = cc
at_first [] (suc n) x rest e = cc
at_first (z ∷ xs) zero x rest e = cc
at_first (z ∷ xs) (suc n) x rest e = at_first xs n x rest e

at_map : (f : Partial → List Partial) (xs : List Partial) (j : ℕ) → j < length xs → get_or (map f xs) j [] ≡ f (get_or xs j nothing)
at_map f xs j low = get_or-map f xs j nothing [] low

pub tiles_inside : (c : Run) (d : ℕ) (ss : List GroupSteps) (q : ℕ) → Tiles c d ss → q < length ss → (group_at ss q).first < length c.steps
tiles_inside c d [] q tiles low = absurd (omega (arith, low))
tiles_inside c d (s ∷ ss) zero tiles low = let some = tiles.1 in let inside = tiles.2 in omega (arith, some, inside)
tiles_inside c d (s ∷ ss) (suc q) tiles low = tiles_inside c s.end ss q tiles.3 (omega (arith, low))

-- the table of a relationship
record Found (c : Run) (x : ℕ) : Type 0 where
  rel : TypedRel
  table : RelTable
  rel_is : slice_get c.typed.rels x ≡ Some rel
  table_at : slice_get c.graph.catalog.rels rel.table ≡ Some table

goes_of : (c : Run) (run : IsRun c) (k : Known) (x from to : ℕ) (way : Direction) → runs_step c.graph.catalog c.typed (Close false x from to way) k ≡ true → Found c x
unfolding fits_step
goes_of c run k x from to way fit =
    let f = follows c run false x from to way (and_parts (holds (goes c.graph.catalog false from to way) (slice_get c.typed.rels x)) _ fit).0 in
    record { rel = f.found; table = f.table; rel_is = f.rel_is; table_at = f.table_at }

found_of : (c : Run) (run : IsRun c) (k : Known) (f : Follow) (s : Step) → Closes f s → runs_step c.graph.catalog c.typed s k ≡ true → Found c f.rel
found_of c run k f s (inl is) fit = goes_of c run k f.rel f.from f.to f.direction (ap (λ t. runs_step c.graph.catalog c.typed t k) (sym is) ∙ fit)
found_of c run k f s (inr is) fit = goes_of c run k f.rel f.to f.from (opposite f.direction) (ap (λ t. runs_step c.graph.catalog c.typed t k) (sym is) ∙ fit)

module _ (c : Run) (run : IsRun c) (d : ℕ) (low : d < length c.steps) (row : Assignment) (held : IsHeld c row (known c d)) (f : Follow) (is : step_at c d ≡ Extend false f.rel f.from f.to f.direction) where
  list : List ℕ
  list = neighbours c.graph (rel_table c.typed f.rel) f.direction (slice_index row.nodes f.from)

  -- the node of a place of a list
  pub leads_to : (built : List Partial) (k : Known) (j item : ℕ) → runs_step c.graph.catalog c.typed (step_at c d) k ≡ true
      → slice_get (neighbours c.graph (rel_table c.typed f.rel) f.direction (slice_index row.nodes f.from)) j ≡ Some item
      → item < near_rows c.graph (rel_table c.typed f.rel) (opposite f.direction) → length (neighbours c.graph (rel_table c.typed f.rel) f.direction (slice_index row.nodes f.from)) < 2 ^ 32
      → j < length (raw c.graph c.typed (built_at c d) (step_at c d) (before c row d))
      → look (get_or (raw c.graph c.typed (built_at c d) (step_at c d) (before c row d)) j nothing).nodes f.to ≡ Some (record { table = node_table c.typed f.to; row = item })
  leads_to built k j item fit there inside few within =
      let follow = follows c run false f.rel f.from f.to f.direction (trying.extend_goes c run d low row held false f.rel f.from f.to f.direction is) in
      let hop = hop_there c.graph (rel_table c.typed f.rel) follow.table follow.table_is f.direction (slice_index row.nodes f.from) j item there inside few in
      let new : Assignment = with_number f.rel hop.0 (with_row f.to item row) in
      let made : IsMade c d j row (with_number f.rel hop.0 (with_row f.to item row)) =
      trying.extend_tried c run d low row held false f.rel f.from f.to f.direction is j (with_number f.rel hop.0 (with_row f.to item row)) Made (record { number = hop.0; row = item }, hop.1, refl) in
      let one : taken c.typed (with_number f.rel hop.0 (with_row f.to item row)) (step_at c d) (before c row d) ∷ [] ≡ get_or (raw c.graph c.typed (built_at c d) (step_at c d) (before c row d)) j nothing ∷ [] =
      sym (at_first (tries c.graph c.typed (built_at c d) (step_at c d) (before c row d)) j _ _ made.made)
      ∙ ap (λ l. get_or l j []) (raw_tries c run (built_at c d) (step_at c d) k (before c row d) (ap makes_group is) fit)
      ∙ at_map (λ e. one_if (own c.graph c.typed (step_at c d) e) e) (raw c.graph c.typed (built_at c d) (step_at c d) (before c row d)) j within
      ∙ ap (λ s. one_if (own c.graph c.typed s (get_or (raw c.graph c.typed (built_at c d) (step_at c d) (before c row d)) j nothing)) (get_or (raw c.graph c.typed (built_at c d) (step_at c d) (before c row d)) j nothing)) is in
      let same : taken c.typed (with_number f.rel hop.0 (with_row f.to item row)) (step_at c d) (before c row d) ≡ get_or (raw c.graph c.typed (built_at c d) (step_at c d) (before c row d)) j nothing = cc one in
      ap (λ (e : Partial). look e.nodes f.to) (sym same)
      ∙ ap (λ s. look (taken c.typed (with_number f.rel hop.0 (with_row f.to item row)) s (before c row d)).nodes f.to) is
      ∙ ap (λ b. cond b (Some (node_at c.typed (with_number f.rel hop.0 (with_row f.to item row)) f.to)) (look (before c row d).nodes f.to)) (eq-eqb f.to f.to refl)
      ∙ ap (λ (r : ℕ). Some (record { table = node_table c.typed f.to; row = r })) (get_or-set_same row.nodes f.to item 0 (omega (arith, held.node_count, slice_get_within c.typed.nodes f.to _ follow.far)))

module _ (c : Run) (ss : List GroupSteps) (row : Assignment) (pre : List ℕ) (st : Stands c ss row pre) (low : length pre < length ss) (t : Closing) (told : IsClosing c ss (length pre) t) (f : Follow) (follows_is : step_at c (group_at ss (length pre)).first ≡ Extend false f.rel f.from f.to f.direction) where
  here : Reached c (rows_in c ss) (flat_in ss) row (layout_in c ss) 0 0 ss none [] pre
  here = reached c (rows_in c ss) (flat_in ss) row (layout_in c ss) ss 0 0 none nothing [] pre st.grouped.tiles
      (record { flats = λ q. (let e : length q ≡ 0 + length q = omega arith in ap (flat_in ss) e); size = λ q. refl; keeps = λ q j. refl })
      (all_groups c ss row pre st)
      st.grouped.enough low st.chain

  first_low : here.s.first < length c.steps
  first_low = let some = here.some in let inside = here.inside in omega (arith, some, inside)

  is : step_at c here.s.first ≡ Extend false f.rel f.from f.to f.direction
  is = ap (λ (s : GroupSteps). step_at c s.first) (sym here.is) ∙ follows_is

  node_is : f.to ≡ t.node
  node_is = told.follows f follows_is

  -- the node of the other end is known, and has the row that stands
  other_known : here.set.nodes t.other ≡ true
  other_known = here.knows told.bound.group t.other told.bound.before (let at : 0 + told.bound.group ≡ told.bound.group = omega arith in ap (flat_in ss) at ∙ told.bound.flat) told.bound.binds

  other_before : (known c here.s.first).nodes t.other ≡ true
  other_before =
      let early : (group_at ss told.bound.group).first < here.s.first = here.early told.bound.group told.bound.before in
      let at : (group_at ss told.bound.group).first + 1 + (here.s.first - ((group_at ss told.bound.group).first + 1)) ≡ here.s.first = omega (arith, early) in
      subst (λ n. (known c n).nodes t.other ≡ true) at (later_known c (group_at ss told.bound.group).first (here.s.first - ((group_at ss told.bound.group).first + 1)) t.other told.bound.binds)

  other_is : look here.bound.nodes t.other ≡ Some (node_at c.typed row t.other)
  other_is = here.at.bound.nodes t.other other_known ∙ trying.found c st.runs here.s.first first_low row here.at.held t.other other_before

  alike : AreAlike here.set here.bound (before c row here.s.first)
  alike = record { nodes = here.at.bound.nodes; rels = here.at.bound.rels }

  module _ (j item : ℕ) (there : slice_get (neighbours c.graph (rel_table c.typed f.rel) f.direction (slice_index row.nodes f.from)) j ≡ Some item)
      (inside : item < near_rows c.graph (rel_table c.typed f.rel) (opposite f.direction))
      (few : length (neighbours c.graph (rel_table c.typed f.rel) f.direction (slice_index row.nodes f.from)) < 2 ^ 32)
      (off : stands_in (neighbours t.near.graph t.near.table t.near.direction (slice_index row.nodes t.other)) item ≡ false)
      (in_list : j < (layout_in c ss).size pre) (kept : (layout_in c ss).keeps pre j ≡ true) (is_flat : (layout_in c ss).flat pre ≡ true) where
    rows_here : rows_in c ss (0 + length pre) ≡ built_at c here.s.first
    rows_here = let same : 0 + length pre ≡ length pre = omega arith in ap (rows_in c ss) same ∙ ap (λ (s : GroupSteps). built_at c s.first) here.is

    fit : runs_step c.graph.catalog c.typed (step_at c here.s.first) here.set ≡ true
    fit = here.enough.0

    size_is : j < length (raw c.graph c.typed (rows_in c ss (0 + length pre)) (step_at c here.s.first) here.bound)
    unfolding size_from
    size_is = subst (λ n. j < n) (ap (layout_in c ss).size (sym (append-nil pre)) ∙ here.tail.size []) in_list

    -- what the place binds
    other_there : look (raw_at c.graph c.typed (rows_in c ss (0 + length pre)) (group_in c.steps here.s) here.bound j).nodes t.other ≡ Some (node_at c.typed row t.other)
    other_there =
        sym ((each_at (AreAlike here.set here.bound) (raw c.graph c.typed (rows_in c ss (0 + length pre)) (step_at c here.s.first) here.bound)
        (raw_keeps c.graph c.typed (rows_in c ss (0 + length pre)) (step_at c here.s.first) here.set here.bound here.are.0 fit) j size_is).nodes t.other other_known)
        ∙ other_is

    own_known : (after_step (step_at c here.s.first) here.set).nodes f.to ≡ true
    own_known = ap (λ s. (after_step s here.set).nodes f.to) is ∙ binds_known (Extend false f.rel f.from f.to f.direction) here.set f.to refl

    own_there : look (raw_at c.graph c.typed (rows_in c ss (0 + length pre)) (group_in c.steps here.s) here.bound j).nodes f.to ≡ Some (record { table = node_table c.typed f.to; row = item })
    own_there =
        let zipped = raw_alike c.graph c.typed (rows_in c ss (0 + length pre)) (step_at c here.s.first) here.set here.bound (before c row here.s.first) here.are.0 fit alike in
        (zip_at (AreAlike (after_step (step_at c here.s.first) here.set)) (raw c.graph c.typed (rows_in c ss (0 + length pre)) (step_at c here.s.first) here.bound) (raw c.graph c.typed (rows_in c ss (0 + length pre)) (step_at c here.s.first) (before c row here.s.first)) zipped j size_is).nodes f.to own_known
        ∙ ap (λ (r : List Partial). look (get_or (raw c.graph c.typed r (step_at c here.s.first) (before c row here.s.first)) j nothing).nodes f.to) rows_here
        ∙ leads_to c st.runs here.s.first first_low row here.at.held f is (built_at c here.s.first) here.set j item fit there inside few
        (subst (λ (r : List Partial). j < length (raw c.graph c.typed r (step_at c here.s.first) (before c row here.s.first))) rows_here
        (subst (λ n. j < n) (sym (as_long c.graph c.typed (rows_in c ss (0 + length pre)) (group_in c.steps here.s) here.set here.bound (before c row here.s.first) here.are.0 fit here.enough.1 alike)) size_is))

    -- the later group
    rest_is : drop (length pre + 1) ss ≡ here.rest
    rest_is = let at : suc (length pre) ≡ length pre + 1 = omega arith in subst (λ n. drop n ss ≡ here.rest) at here.behind

    later_is : group_at here.rest (told.later - (length pre + 1)) ≡ group_at ss told.later
    later_is =
        let behind : length pre < told.later = told.behind in
        let at : length pre + 1 + (told.later - (length pre + 1)) ≡ told.later = omega (arith, behind) in
        ap (λ r. group_at r (told.later - (length pre + 1))) (sym rest_is) ∙ get_or-drop (length pre + 1) ss (told.later - (length pre + 1)) no_group ∙ ap (group_at ss) at

    rest_long : length here.rest ≡ length ss - (length pre + 1)
    rest_long = ap length (sym rest_is) ∙ length-drop (length pre + 1) ss

    later_low : (group_at ss told.later).first < length c.steps
    later_low = tiles_inside c 0 ss told.later st.grouped.tiles told.inside

    closes : Closes (record { rel = told.rel; from = t.other; to = f.to; direction = t.near.direction }) (step_at c (group_at ss told.later).first)
    closes = subst (λ n. Closes (record { rel = told.rel; from = t.other; to = n; direction = t.near.direction }) (step_at c (group_at ss told.later).first)) (sym node_is) told.closes

    follow : Found c told.rel
    follow = found_of c st.runs (known c (group_at ss told.later).first) (record { rel = told.rel; from = t.other; to = f.to; direction = t.near.direction }) (step_at c (group_at ss told.later).first) closes (fits_at c st.runs (group_at ss told.later).first later_low)

    lacks : stands_in (neighbours c.graph follow.rel.table t.near.direction (slice_index row.nodes t.other)) item ≡ false
    lacks =
        let table : t.near.table ≡ follow.rel.table = told.table ∙ ap table_of follow.rel_is in
        subst (λ g. stands_in (neighbours g follow.rel.table t.near.direction (slice_index row.nodes t.other)) item ≡ false) told.graph
        (subst (λ n. stands_in (neighbours t.near.graph n t.near.direction (slice_index row.nodes t.other)) item ≡ false) table off)

    ends : Ends c.graph c.typed (rows_in c ss) (0 + length pre + 1) (groups_in c here.rest) (after_step (step_at c here.s.first) here.set) (raw_at c.graph c.typed (rows_in c ss (0 + length pre)) (group_in c.steps here.s) here.bound j)
    ends =
        ends_later c (rows_in c ss) (0 + length pre + 1) here.rest (after_step (step_at c here.s.first) here.set) _ (told.later - (length pre + 1))
        (let behind : length pre < told.later = told.behind in let inside = told.inside in omega (arith, rest_long, behind, inside))
        (λ n gs. lacking c.graph c.typed (rows_in c ss) n (group_in c.steps (group_at here.rest (told.later - (length pre + 1)))) gs (after_step (step_at c here.s.first) here.set) _ (record { rel = told.rel; from = t.other; to = f.to; direction = t.near.direction }) follow.rel follow.table (node_at c.typed row t.other) (record { table = node_table c.typed f.to; row = item })
        follow.rel_is follow.table_at (subst (λ (s : GroupSteps). Closes (record { rel = told.rel; from = t.other; to = f.to; direction = t.near.direction }) (step_at c s.first)) (sym later_is) closes)
        (known_node (step_at c here.s.first) here.set t.other other_known) other_there own_known own_there lacks)

    pub nothing_there : walks (layout_in c ss) (length ss - (length pre + 1)) (pre ++ j ∷ []) ≡ []
    nothing_there =
        let many : length (groups_in c here.rest) ≡ length ss - (length pre + 1) = length-map here.rest (group_in c.steps) ∙ rest_long in
        let same : number_of ((layout_in c ss).flat pre) j ≡ j = ap (λ f. number_of f j) is_flat in
        let here_flat : flat_in ss (0 + length pre) ≡ true = (let at : 0 + length pre ≡ length pre = omega arith in ap (flat_in ss) at ∙ is_flat) in
        subst (λ n. walks (layout_in c ss) n (pre ++ j ∷ []) ≡ []) many
        (subst (λ n. walks (layout_in c ss) (length (groups_in c here.rest)) (pre ++ n ∷ []) ≡ []) same
        (nothing_behind c.graph c.typed (rows_in c ss) (flat_in ss) (layout_in c ss) (group_in c.steps here.s) (groups_in c here.rest) pre (0 + length pre) here.set here.bound here.tail here.are here.enough j in_list kept here_flat ends))

pub can_list : (c : Run) (run : IsRun c) (d : ℕ) (low : d < length c.steps) (row : Assignment) (held : IsHeld c row (known c d)) (f : Follow) → step_at c d ≡ Extend false f.rel f.from f.to f.direction → CanList c.graph c.typed row f
can_list c run d low row held f is = record {
  follow = trying.extend_can c run d low row held false f.rel f.from f.to f.direction is;
  listed = listed_is c f.from f.to f.rel f.direction (trying.extend_goes c run d low row held false f.rel f.from f.to f.direction is);
}

-- the same by the group that the program has
pub ends_walks : (c : Run) (ss : List GroupSteps) (row : Assignment) (depth : ℕ) (inside : depth < length ss) (x : GroupSteps) (found : x ≡ slice_index_or ss depth x) (pre : List ℕ) (long : length pre ≡ depth) (st : Stands c ss row pre)
    (t : Closing) (told : IsClosing c ss depth t) (f : Follow) → step_at c x.first ≡ Extend false f.rel f.from f.to f.direction → (j : ℕ) → HasNothing c.graph c.typed row f t.other t.near j → IsPlace (layout_in c ss) pre j j → (layout_in c ss).flat pre ≡ true
    → walks (layout_in c ss) (length ss - (depth + 1)) (pre ++ j ∷ []) ≡ []
ends_walks c ss row depth inside x found pre long st t told f is j nothing place flat =
    let group_is : x ≡ group_at ss (length pre) = found ∙ sym (get_or_default ss depth no_group x inside) ∙ ap (group_at ss) (sym long) in
    subst (λ n. walks (layout_in c ss) (length ss - (n + 1)) (pre ++ j ∷ []) ≡ []) long
    (nothing_there c ss row pre st (omega (arith, long, inside)) t (subst (λ n. IsClosing c ss n t) (sym long) told) f (ap (λ (s : GroupSteps). step_at c s.first) (sym group_is) ∙ is) j nothing.item nothing.there nothing.inside nothing.few nothing.off place.inside place.kept flat)
