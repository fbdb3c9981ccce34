-- The rows and load numbers at one selected position of each group of a chunk are those of the walk of these positions.
use Rattle.std.proofs.Common.{◌≡◌, ◌⊎◌, inl, inr, ℕ, zero, suc, ◌+◌, ◌-◌, ◌*◌, ◌^◌, ◌<◌, ◌≤◌, Bool, min, true, false, not, Some, None, List, [], ◌∷◌, filter, map, length, drop, refl, sym, ap, ap₂, ◌∙◌, subst, arith, true≢false, zero-add}
use Rattle.std.specs.Prelude.{slice_get, slice_index, slice_index_or, nat_eq, if◌then◌else◌}
use Rattle.std.specs.List.{range_with_len, AllByRecursion}
use Rattle.std.specs.Option.{unwrap_or}
use Rattle.std.proofs.lemmas.Bool.{and_parts, cases_eq, eq-eqb, ne_eqb}
use Rattle.std.proofs.lemmas.List.{get_or_default, length-drop, length-map, length-take, drop_more, drop_all}
use Rattle.std.proofs.lemmas.List.FromFn.{get_or-map-range_with_len, get_or-range_with_len, length-range_with_len}
use Rattle.std.proofs.lemmas.Option.{slice_get-get_or, slice_get_within}
use Rattle.gq_bits.specs.declared.TheConstants.{VECTOR}
use Rattle.gq_base.specs.Catalogs.{Tables}
use Rattle.gq_base.specs.declared.direction.Direction.{Direction}
use Rattle.gq_base.specs.declared.direction.Direction.TheVariants.{Forward, Backward}
use Rattle.gq_base.specs.Valid.{row_count}
use Rattle.gq_bits.specs.Places.{is_marked}
use Rattle.gq_group.specs.Pieces.{items_of}
use Rattle.gq_group.specs.Chunks.{assignment_at, cell_at, items_in, kept_in, node_at, rel_at, node_in, edge_in, group_of, first_in, row_in}
use Rattle.gq_group.specs.Edges.{way as way_of, number_of}
use Rattle.gq_group.specs.Groups.{AreSelected}
use Rattle.gq_group.specs.declared.chunk.Chunk.{Chunk}
use Rattle.gq_group.specs.declared.home.NodeHome.{NodeHome}
use Rattle.gq_group.specs.declared.home.NodeHome.TheVariants as node
use Rattle.gq_group.specs.declared.home.RelHome.TheVariants as rel
use Rattle.gq_join.specs.Kept.{has_key, matches, matches_of, place_of, rel_in, values_of, node_in as node_in_build}
use Rattle.gq_plan.specs.Covers.{after, fits_step}
use Rattle.gq_plan.specs.Halves.{runs_step}
use Rattle.gq_plan.specs.Known.{Known, none}
use Rattle.gq_plan.specs.Meaning.{nothing}
use Rattle.gq_plan.specs.Plans.{Plan, Step, Scan, Extend, Close, Join, Keep, Differ, NoLoop, Single, Meet, steps}
use Rattle.gq_plan.specs.Rows.{node_table, rel_table}
use Rattle.gq_plan.specs.Soundness.{has_number}
use Rattle.gq_plan.specs.declared.assignment.Assignment.{Assignment}
use Rattle.gq_plan.specs.declared.typed.Typed.{Typed}
use Rattle.gq_store.specs.Neighbours.{neighbours, numbers}
use Rattle.gq_law_groups.specs.Groups.{makes_group, decode, place}
use Rattle.gq_search.specs.Layouts.{piece_of}
use Rattle.gq_search.specs.Running.{Runs, cursor_at, keys_of, prefix}
use Rattle.gq_search.specs.declared.walker.Cursor.{Cursor}
use Rattle.gq_search.proofs.Runs.{length-keys}
use Rattle.gq_steps.specs.Built.{HasBuild}
use Rattle.gq_steps.specs.Given.{given}
use Rattle.gq_pipe.specs.steps.Chunks.{AreStanding}
use Rattle.gq_steps.specs.Pieces.{HasKept, KeepsOf, list_of, matches_in, part}
use Rattle.gq_pipe.specs.Serving.{row_of}
use Rattle.gq_homes.specs.Homes.{AreHomes, HasColumn, HasKeptColumn, HasMatch, IsFilling, IsHoused, column_group, filling_at, filling_of, is_forward, kept_of, leading_of, node_home, rel_home}
use Rattle.gq_homes.specs.steps.Housing.{build_in}
use Rattle.gq_pipe.specs.steps.Cells.{cell_of, filled, has_cell, item_in, marks_in, kept_row, led, near_in}
use Rattle.gq_steps.specs.Keeps.{IsRange, IsTriedAt}
use Rattle.gq_steps.specs.Levels.{Run, step_at, built_at, known, before}
use Rattle.gq_steps.specs.steps.Lists.{rows_in, layout_in, Stands, EarlierStand}
use Rattle.gq_steps.specs.Groups.{no_group, group_at, group_in, groups_in, Tiles}
use Rattle.gq_steps.specs.Moves.{IsRun, IsHeld, IsTried}
use Rattle.gq_homes.specs.declared.homes.Filling.{Filling}
use Rattle.gq_steps.specs.declared.group_steps.GroupSteps.{GroupSteps}
use Rattle.gq_steps.specs.declared.plan_run.Tried.{Tried}
use Rattle.gq_steps.specs.declared.plan_run.Tried.TheVariants.{Past, Missed, Made}
use Rattle.gq_pipe.proofs.Agreeing.{TriesItself, joined, join_itself, scan_itself, extend_itself, close_itself, keep_itself, differ_itself, no_loop_itself, single_itself, meet_itself}
use Rattle.gq_steps.proofs.Binding.{fits_at, given_all}
use Rattle.gq_homes.proofs.Brings.{side_low}
use Rattle.gq_homes.proofs.Brought.{each_passes}
use Rattle.gq_pipe.proofs.Filling.{AreCells, cell_marked, led_within}
use Rattle.gq_steps.proofs.Going.{IsGoing, begins, ends, tried_made, tried_missed, tried_past}
use Rattle.gq_steps.proofs.Here.{group_range, group_held, group_makes, group_size, group_told, group_next, group_place, group_others}
use Rattle.gq_steps.proofs.Joined.{build, join_count, key_value, IsLow}
use Rattle.gq_steps.proofs.Joining.{has, has_kept}
use Rattle.gq_steps.proofs.Matched.{match_key, match_low}
use Rattle.gq_pipe.proofs.Piecing.{list_size}
use Rattle.gq_pipe.proofs.Pushing.{place_has}
use Rattle.gq_pipe.proofs.Reading.{place_at, IsHere, here, item_is, first_is, position_small}
use Rattle.gq_pipe.proofs.Resting.{stands_first}
use Rattle.gq_pipe.proofs.Sources.{IsIn, fits_there, set_before, known_before}
use Rattle.gq_steps.proofs.Standings.{Met, both_stand, same_row, stands_part, prefix_more, tile_at, IsWithin}
use Rattle.gq_steps.proofs.Stepping.{Follows, follows}
use Rattle.gq_steps.proofs.Trying.{scan_low, scan_count, extend_goes, extend_parts, close_goes, single_goes}
use Rattle.gq_sift.proofs.Matching.{join_reads, same_values}

pub way_is : (w : Direction) → way_of (is_forward w) ≡ w
way_is Forward = refl
way_is Backward = refl

-- what a step reads is known where it fits
pub extend_reads : (catalog : Tables) (y : Typed) (k : Known) (column : Bool) (x from to : ℕ) (w : Direction) → fits_step catalog y (Extend column x from to w) k ≡ true → k.nodes from ≡ true
unfolding fits_step
extend_reads catalog y k column x from to w fit = (and_parts (k.nodes from) _ (and_parts (not (k.rels x)) _ (and_parts _ _ fit).1).1).0

pub close_reads : (catalog : Tables) (y : Typed) (k : Known) (column : Bool) (x from to : ℕ) (w : Direction) → fits_step catalog y (Close column x from to w) k ≡ true → k.nodes from ≡ true
unfolding fits_step
close_reads catalog y k column x from to w fit = (and_parts (k.nodes from) _ (and_parts (not (k.rels x)) _ (and_parts _ _ fit).1).1).0

module _ (c : Run) (ss : List GroupSteps) (row : Assignment) (cs : List Cursor) (ms : List (List Bool)) (ch : Chunk) (ps : List ℕ) (runs : Runs (layout_in c ss) [] cs ms) (many : length cs ≡ length ss)
    (groups : AreStanding c ss row cs ms ch.groups.now (length ss)) (sel : AreSelected ch.groups.now ps)
    (st : EarlierStand c ss row (keys_of cs)) (fs : List Filling) (homes : AreHomes c ss (length ss) (length c.steps) fs ch.homes.now) (cols : AreCells c row fs ch) where
  -- the rows and load numbers there
  abbrev pub read : Assignment
  read = assignment_at c.graph c.typed ch ps

  pub node_read : (v : ℕ) → v < length c.typed.nodes → slice_index read.nodes v ≡ node_at ch ps v
  node_read v low = get_or-map-range_with_len (node_at ch ps) 0 (length c.typed.nodes) v v 0 low (zero-add v)

  pub rel_read : (x : ℕ) → x < length c.typed.rels → slice_index read.rels x ≡ rel_at c.graph c.typed ch ps x
  rel_read x low = get_or-map-range_with_len (rel_at c.graph c.typed ch ps) 0 (length c.typed.rels) x x 0 low (zero-add x)

  -- where the groups before one stand at their numbers
  module _ (i : ℕ) (low : i < length ss) (at : Stands c ss read (prefix cs i)) where
    abbrev s : GroupSteps
    s = group_at ss i

    abbrev pre : List ℕ
    pre = prefix cs i

    abbrev j : ℕ
    j = place_at c ss row cs ms ch ps runs many groups sel i

    found : s ≡ slice_index_or ss i s
    found = get_or_default ss i no_group s low

    long : length pre ≡ i
    long = length-keys cs i (omega (arith, low, many))

    within : IsWithin c s
    within = tile_at c 0 ss at.grouped.tiles i low

    first_low : s.first < length c.steps
    first_low = let some = within.some in let inside = within.inside in omega (arith, some, inside)

    spot : IsHere c ss row cs ms ch ps runs many groups sel i
    spot = here c ss row cs ms ch ps runs many groups sel i low

    held : IsHeld c read (known c s.first)
    held = group_held c ss read i low s found pre long at

    range : IsRange c s
    range = group_range c ss read i low s found pre long at

    met : Met c row read s
    met = subst (λ n. Met c row read (group_at ss n)) long (both_stand c ss row read pre (omega (arith, low, long)) (stands_part c ss row cs i low st) at)

    house : (e : ℕ) → s.first ≤ e → e < s.end → IsHoused fs ch.homes.now i (step_at c e)
    house e above below = (homes.done i e low (record { low = above; high = below })).1

    others : (e : ℕ) → s.first < e → e < s.end → makes_group (step_at c e) ≡ false
    others e above below = group_others c ss read i low s found pre long at e above below

    few : j + 1 < 2 ^ 32
    few = let inside = spot.place.inside in let most = spot.few in omega (arith, inside, most)

    inside_of : (n : ℕ) → length (Rattle.gq_steps.specs.Tries.tries c.graph c.typed (built_at c s.first) (step_at c s.first) (before c read s.first)) ≡ n → j < n
    inside_of n e = let inside = spot.place.inside in omega (arith, inside, group_size c ss read i low s found pre long at, e)

    -- the load number of a relationship of the group's list
    listed_number : (x from : ℕ) (w : Direction) → rel_home ch.homes.now x ≡ rel.Listed i from (is_forward w) → x < length c.typed.rels → from < length c.typed.nodes
        → slice_index read.rels x ≡ slice_index (numbers c.graph (rel_table c.typed x) w (slice_index read.nodes from)) j
    listed_number x from w home x_low from_low =
        rel_read x x_low
        ∙ ap (λ h. number_of c.graph (rel_table c.typed x) (edge_in ch ps h)) home
        ∙ ap (λ d. slice_index (numbers c.graph (rel_table c.typed x) d (node_at ch ps from)) (first_in (group_of ch i) + slice_index ps i)) (way_is w)
        ∙ ap (λ n. slice_index (numbers c.graph (rel_table c.typed x) w n) (first_in (group_of ch i) + slice_index ps i)) (sym (node_read from from_low))
        ∙ ap (λ f. slice_index (numbers c.graph (rel_table c.typed x) w (slice_index read.nodes from)) (f + slice_index ps i)) (first_is c ss row cs ms ch ps runs many groups sel i low)

    -- that of the one relationship of a column
    single_number : (x from : ℕ) (w : Direction) → rel_home ch.homes.now x ≡ rel.Single from (is_forward w) → x < length c.typed.rels → from < length c.typed.nodes
        → slice_index read.rels x ≡ slice_index (numbers c.graph (rel_table c.typed x) w (slice_index read.nodes from)) 0
    single_number x from w home x_low from_low =
        rel_read x x_low
        ∙ ap (λ h. number_of c.graph (rel_table c.typed x) (edge_in ch ps h)) home
        ∙ ap (λ d. slice_index (numbers c.graph (rel_table c.typed x) d (node_at ch ps from)) 0) (way_is w)
        ∙ ap (λ n. slice_index (numbers c.graph (rel_table c.typed x) w n) 0) (sym (node_read from from_low))

    -- the item of the group
    item_there : (v : ℕ) → node_home ch.homes.now v ≡ node.Item i → v < length c.typed.nodes → slice_index read.nodes v ≡ slice_index (list_of c s.first row (step_at c s.first)) j
    item_there v home v_low = node_read v v_low ∙ ap (node_in ch ps) home ∙ item_is c ss row cs ms ch ps runs many groups sel i low

    -- the position is in the piece
    p_small : slice_index ps i < VECTOR
    p_small = position_small c ss row cs ms ch ps runs many groups sel i low

    -- which is marked
    has_here : (n : ℕ) → column_group (filling_at fs n) ≡ i → has_cell ch.groups.now (filling_at fs n) (slice_index ps i) ≡ true
    has_here n mine = ap (λ k. is_marked (marks_in (group_of ch k)) (slice_index ps i)) mine ∙ ap (λ o. is_marked (marks_in o) (slice_index ps i)) spot.there ∙ spot.marked

    -- so it has a row in each column of the group
    cell_there : (n : ℕ) → n < length fs → column_group (filling_at fs n) ≡ i
        → row_in (cell_at ch n (slice_index ps i)) ≡ cell_of c row ch.groups.now ch.homes.now (filled c row ch.groups.now ch.homes.now fs n) (filling_at fs n) (slice_index ps i)
    cell_there n inside mine =
        ap row_in (cols.cells n (slice_index ps i) _ (cell_marked c row ch.groups.now ch.homes.now fs (length fs) n (slice_index ps i) inside p_small (has_here n mine))).is

    -- a later column reads that row
    earlier_there : (n m : ℕ) → m < n → n < length fs → column_group (filling_at fs m) ≡ i → unwrap_or (row_of (filled c row ch.groups.now ch.homes.now fs n) m (slice_index ps i)) 0 ≡ row_in (cell_at ch m (slice_index ps i))
    earlier_there n m less low mine =
        ap (λ o. unwrap_or o 0) (cell_marked c row ch.groups.now ch.homes.now fs n m (slice_index ps i) less p_small (has_here m mine)) ∙ sym (cell_there m (omega (arith, less, low)) mine)

    -- the source of a column, as the column reads it
    source_there : (from n : ℕ) → from < length c.typed.nodes → n < length fs → ((j m : ℕ) → node_home ch.homes.now from ≡ node.Column j m → m < n) → IsIn ch.homes.now i from ⊎ (slice_index row.nodes from ≡ slice_index read.nodes from)
        → near_in row ch.groups.now (filled c row ch.groups.now ch.homes.now fs n) i from (slice_index ps i) (node_home ch.homes.now from) ≡ slice_index read.nodes from
    unfolding IsIn
    source_there from n from_low n_low before (inl (inl item)) =
        ap (near_in row ch.groups.now (filled c row ch.groups.now ch.homes.now fs n) i from (slice_index ps i)) item
        ∙ ap (λ b. if b then slice_index (items_in (group_of ch i)) (slice_index ps i) else slice_index row.nodes from) (eq-eqb i i refl)
        ∙ sym (node_read from from_low ∙ ap (node_in ch ps) item)
    source_there from n from_low n_low before (inl (inr column)) =
        let m : ℕ = column.0 in
        let less : m < n = before i m column.1 in
        ap (near_in row ch.groups.now (filled c row ch.groups.now ch.homes.now fs n) i from (slice_index ps i)) column.1
        ∙ ap (λ b. if b then unwrap_or (row_of (filled c row ch.groups.now ch.homes.now fs n) m (slice_index ps i)) 0 else slice_index row.nodes from) (eq-eqb i i refl)
        ∙ earlier_there n m less n_low (homes.columns from i m column.1).group
        ∙ sym (node_read from from_low ∙ ap (node_in ch ps) column.1)
    source_there from n from_low n_low before (inr same) = by (node_home ch.homes.now from) refl
      where
        by : (o : NodeHome) → node_home ch.homes.now from ≡ o → near_in row ch.groups.now (filled c row ch.groups.now ch.homes.now fs n) i from (slice_index ps i) o ≡ slice_index read.nodes from
        by node.Nowhere is = same
        by (node.Item j) is = if_item (cases_eq j i)
          where
            if_item : (j ≡ i) ⊎ (j ≡ i → ⊥) → (if nat_eq j i then slice_index (items_in (group_of ch j)) (slice_index ps i) else slice_index row.nodes from) ≡ slice_index read.nodes from
            if_item (inl e) =
                ap (λ b. if b then slice_index (items_in (group_of ch j)) (slice_index ps i) else slice_index row.nodes from) (eq-eqb j i e)
                ∙ ap (λ k. slice_index (items_in (group_of ch j)) (slice_index ps k)) (sym e)
                ∙ sym (node_read from from_low ∙ ap (node_in ch ps) is)
            if_item (inr other) =
                ap (λ b. if b then slice_index (items_in (group_of ch j)) (slice_index ps i) else slice_index row.nodes from) (ne_eqb j i other) ∙ same
        by (node.Column j m) is = if_column (cases_eq j i)
          where
            if_column : (j ≡ i) ⊎ (j ≡ i → ⊥) → (if nat_eq j i then unwrap_or (row_of (filled c row ch.groups.now ch.homes.now fs n) m (slice_index ps i)) 0 else slice_index row.nodes from) ≡ slice_index read.nodes from
            if_column (inl e) =
                let less : m < n = before j m is in
                ap (λ b. if b then unwrap_or (row_of (filled c row ch.groups.now ch.homes.now fs n) m (slice_index ps i)) 0 else slice_index row.nodes from) (eq-eqb j i e)
                ∙ earlier_there n m less n_low ((homes.columns from j m is).group ∙ e)
                ∙ ap (λ k. row_in (cell_at ch m (slice_index ps k))) (sym e)
                ∙ sym (node_read from from_low ∙ ap (node_in ch ps) is)
            if_column (inr other) =
                ap (λ b. if b then unwrap_or (row_of (filled c row ch.groups.now ch.homes.now fs n) m (slice_index ps i)) 0 else slice_index row.nodes from) (ne_eqb j i other) ∙ same

    -- what a column extension binds
    column_there : (x from to : ℕ) (w : Direction) (b : HasColumn fs ch.homes.now i x from to w) → from < length c.typed.nodes → to < length c.typed.nodes → slice_index read.nodes from < row_count c.graph.nodes (node_table c.typed from)
        → IsIn ch.homes.now i from ⊎ (slice_index row.nodes from ≡ slice_index read.nodes from) → slice_index read.nodes to ≡ slice_index (neighbours c.graph (rel_table c.typed x) w (slice_index read.nodes from)) 0
    column_there x from to w b from_low to_low within_rows near =
        let filling : IsFilling c ss (known c (length c.steps)) ch.homes.now b.column (filling_at fs b.column) = homes.fillings b.column b.inside in
        let mine : IsFilling c ss (known c (length c.steps)) ch.homes.now b.column (filling_of i x from w) = subst (IsFilling c ss (known c (length c.steps)) ch.homes.now b.column) b.filling filling in
        node_read to to_low ∙ ap (node_in ch ps) b.node_is ∙ cell_there b.column b.inside (ap column_group b.filling)
        ∙ ap (λ f. cell_of c row ch.groups.now ch.homes.now (filled c row ch.groups.now ch.homes.now fs b.column) f (slice_index ps i)) b.filling
        ∙ ap (led c (leading_of i x from w)) (source_there from b.column from_low b.inside mine.before near)
        ∙ led_within c (leading_of i x from w) (slice_index read.nodes from) within_rows

    -- the row of the build that a join matches there is the item of the group
    match_there : (side : Plan) (keys : List ℕ) (is : step_at c s.first ≡ Join side keys)
        → slice_get (matches_of (joined c at.runs s.first first_low read held side keys is) read) j ≡ Some (slice_index (items_in (group_of ch i)) (slice_index ps i))
    match_there side keys is =
        let run : IsRun c = at.runs in
        let b : HasBuild c.graph c.typed side keys (slice_index_or c.builds s.first None) = build c run s.first first_low read held side keys is in
        let reads = join_reads c.graph.catalog c.typed met.set side keys (subst (λ t. runs_step c.graph.catalog c.typed t met.set ≡ true) is met.fit) in
        let knows = join_reads c.graph.catalog c.typed (known c s.first) side keys (subst (λ t. runs_step c.graph.catalog c.typed t (known c s.first) ≡ true) is (fits_at c run s.first first_low)) in
        let values : values_of b.build.keys row.nodes ≡ values_of b.build.keys read.nodes =
        ap (λ ks. values_of ks row.nodes) b.is.key_list
        ∙ same_values (after side none).nodes met.set.nodes (known c s.first).nodes keys row.nodes read.nodes reads knows (λ v set bound. same_row c run row read s met v set bound)
        ∙ ap (λ ks. values_of ks read.nodes) (sym b.is.key_list) in
        let list : list_of c s.first row (step_at c s.first) ≡ matches_of b.build read =
        ap (list_of c s.first row) is ∙ ap (λ o. matches_in o row) b.there ∙ ap (matches b.build) values in
        let inside : j < length (matches_of b.build read) = inside_of _ (join_count c run s.first first_low read held side keys is) in
        slice_get-get_or (matches_of b.build read) j 0 inside
        ∙ ap (λ n. Some n) (sym (item_is c ss row cs ms ch ps runs many groups sel i low ∙ ap (λ l. slice_index l j) list))

    -- the load number of a relationship that the build of the group keeps
    kept_number : (side : Plan) (keys : List ℕ) (is : step_at c s.first ≡ Join side keys) (x : ℕ) → x < length c.typed.rels → place_of (joined c at.runs s.first first_low read held side keys is).rels x < length (joined c at.runs s.first first_low read held side keys is).rels
        → slice_index (items_in (group_of ch i)) (slice_index ps i) < length (joined c at.runs s.first first_low read held side keys is).rows
        → rel_home ch.homes.now x ≡ rel.Kept i (place_of (joined c at.runs s.first first_low read held side keys is).rels x)
        → slice_index read.rels x ≡ rel_in (joined c at.runs s.first first_low read held side keys is) x (slice_index (items_in (group_of ch i)) (slice_index ps i))
    kept_number side keys is x x_low kept_there row_low home =
        let b : HasBuild c.graph c.typed side keys (slice_index_or c.builds s.first None) = build c at.runs s.first first_low read held side keys is in
        let n : ℕ = place_of b.build.rels x in
        let k : HasKept b.build spot.group.kept = subst (λ o. KeepsOf o spot.group.kept) b.there spot.is.kept in
        let item : slice_index (items_in (group_of ch i)) (slice_index ps i) ≡ slice_index (items_of spot.group.piece) (slice_index ps i) = ap (λ o. slice_index (items_in o) (slice_index ps i)) spot.there in
        rel_read x x_low
        ∙ ap (λ h. number_of c.graph (rel_table c.typed x) (edge_in ch ps h)) home
        ∙ ap (λ o. kept_in o n (slice_index ps i)) spot.there
        ∙ ap (λ r. slice_index spot.group.kept.numbers.now (r * spot.group.kept.width + n)) (sym item)
        ∙ ap (λ w. slice_index spot.group.kept.numbers.now (slice_index (items_in (group_of ch i)) (slice_index ps i) * w + n)) k.width
        ∙ k.each (slice_index (items_in (group_of ch i)) (slice_index ps i)) n row_low kept_there

    -- the position is in the piece of the group
    item_some : item_in ch.groups.now i (slice_index ps i) ≡ Some (slice_index (items_in (group_of ch i)) (slice_index ps i))
    item_some =
        let list : List ℕ = list_of c s.first row (step_at c s.first) in
        let first : ℕ = VECTOR * piece_of s.flat (cursor_at cs i).key in
        let items : items_in (group_of ch i) ≡ part list first = ap items_in spot.there ∙ spot.is.piece.items_are in
        let inside = spot.place.inside in
        let size = list_size c ss row cs ms st runs many i low in
        let behind : length (drop first list) ≡ length list - first = length-drop first list in
        let most : length (part list first) ≡ min VECTOR (length (drop first list)) = length-take VECTOR (drop first list) in
        let same = ap length items in
        let small = p_small in
        slice_get-get_or (items_in (group_of ch i)) (slice_index ps i) 0 (omega (arith, inside, size, behind, most, same, small))

    -- what a join binds is what the row of its build has that is matched there
    module _ (side : Plan) (keys : List ℕ) (is : step_at c s.first ≡ Join side keys) where
      abbrev b : HasBuild c.graph c.typed side keys (slice_index_or c.builds s.first None)
      b = build c at.runs s.first first_low read held side keys is

      abbrev item : ℕ
      item = slice_index (items_in (group_of ch i)) (slice_index ps i)

      match : slice_get (matches_of (joined c at.runs s.first first_low read held side keys is) read) j ≡ Some item
      match = match_there side keys is

      row_low : item < length (joined c at.runs s.first first_low read held side keys is).rows
      row_low = match_low (joined c at.runs s.first first_low read held side keys is) read j item match

      has_match : HasMatch fs ch.homes.now i side keys
      has_match = subst (IsHoused fs ch.homes.now i) is (house s.first (omega arith) within.some)

      side_bound : IsLow c.typed (after side none)
      side_bound = side_low c (known c s.first) side keys (subst (λ t. runs_step c.graph.catalog c.typed t (known c s.first) ≡ true) is (fits_at c at.runs s.first first_low))

      brought_there : (v : ℕ) → v < length c.typed.nodes → HasKeptColumn fs ch.homes.now i v → slice_index read.nodes v ≡ node_in_build (joined c at.runs s.first first_low read held side keys is) v item
      brought_there v v_low lives =
          let filling : IsFilling c ss (known c (length c.steps)) ch.homes.now lives.column (filling_at fs lives.column) = homes.fillings lives.column lives.inside in
          let mine : IsFilling c ss (known c (length c.steps)) ch.homes.now lives.column (kept_of i lives.depth v) = subst (IsFilling c ss (known c (length c.steps)) ch.homes.now lives.column) lives.filling filling in
          node_read v v_low ∙ ap (node_in ch ps) lives.node_is ∙ cell_there lives.column lives.inside (ap column_group lives.filling)
          ∙ ap (λ f. cell_of c row ch.groups.now ch.homes.now (filled c row ch.groups.now ch.homes.now fs lives.column) f (slice_index ps i)) lives.filling
          ∙ ap (λ d. kept_row (build_in c d) (item_in ch.groups.now i (slice_index ps i)) v) mine.depth
          ∙ ap₂ (λ o r. kept_row o r v) b.there item_some

      node_kept : (v : ℕ) → (after side none).nodes v ≡ true → slice_index read.nodes v ≡ node_in_build (joined c at.runs s.first first_low read held side keys is) v item
      node_kept v own = go (has_number keys v) refl
        where
          go : (t : Bool) → has_number keys v ≡ t → slice_index read.nodes v ≡ node_in_build (joined c at.runs s.first first_low read held side keys is) v item
          go false other = brought_there v (side_bound.nodes v own) (has_match.nodes v own other)
          go true key =
              sym (key_value (joined c at.runs s.first first_low read held side keys is) read item keys v
              (subst (λ ks. has_key (map (node_in_build (joined c at.runs s.first first_low read held side keys is)) ks) (map (slice_index read.nodes) ks) item ≡ true) b.is.key_list
              (match_key (joined c at.runs s.first first_low read held side keys is) read j item match)) key)

      rel_kept : (x : ℕ) → (after side none).rels x ≡ true → slice_index read.rels x ≡ rel_in (joined c at.runs s.first first_low read held side keys is) x item
      rel_kept x own =
          let x_low : x < length c.typed.rels = side_bound.rels x own in
          let all : (joined c at.runs s.first first_low read held side keys is).rels ≡ filter (after side none).rels (range_with_len 0 (length c.typed.rels)) = b.is.rels in
          let there : has (joined c at.runs s.first first_low read held side keys is).rels x ≡ true = ap (λ l. has l x) all ∙ has_kept (after side none).rels (length c.typed.rels) x x_low ∙ own in
          kept_number side keys is x x_low (place_has (joined c at.runs s.first first_low read held side keys is).rels x there).0 row_low
          (has_match.rels x own
          ∙ ap (λ n. rel.Kept i (place_of (filter (after side none).rels (range_with_len 0 n)) x)) homes.rel_count
          ∙ ap (λ l. rel.Kept i (place_of l x)) (sym all))

      join_there : TriesItself c s.first j read
      join_there =
          join_itself c at.runs s.first first_low read held side keys is j item few match
          (subst (AllByRecursion (λ v. slice_index read.nodes v ≡ node_in_build (joined c at.runs s.first first_low read held side keys is) v item)) (sym b.is.nodes)
          (each_passes (λ v. slice_index read.nodes v ≡ node_in_build (joined c at.runs s.first first_low read held side keys is) v item) (after side none).nodes 0 (length c.typed.nodes) (λ v v_low own. node_kept v own)))
          (subst (AllByRecursion (λ x. slice_index read.rels x ≡ rel_in (joined c at.runs s.first first_low read held side keys is) x item)) (sym b.is.rels)
          (each_passes (λ x. slice_index read.rels x ≡ rel_in (joined c at.runs s.first first_low read held side keys is) x item) (after side none).rels 0 (length c.typed.rels) (λ x x_low own. rel_kept x own)))

    -- the first step
    first_itself : TriesItself c s.first j read
    first_itself = go (step_at c s.first) refl (house s.first (omega arith) within.some) (group_makes c ss read i low s found pre long at) met.fit
      where
        run : IsRun c
        run = at.runs

        go : (t : Step) → step_at c s.first ≡ t → IsHoused fs ch.homes.now i (step_at c s.first) → makes_group (step_at c s.first) ≡ true → runs_step c.graph.catalog c.typed (step_at c s.first) met.set ≡ true → TriesItself c s.first j read
        go (Scan v) is home makes fit =
            let v_low : v < length c.typed.nodes = scan_low c run s.first first_low read held v is in
            let inside = inside_of _ (scan_count c run s.first first_low read held v is) in
            scan_itself c run s.first first_low read held v j is inside few
            (item_there v (subst (IsHoused fs ch.homes.now i) is home) v_low
            ∙ ap (λ t. slice_index (list_of c s.first row t) j) is
            ∙ get_or-range_with_len 0 _ j 0 inside ∙ zero-add j)
        go (Extend true x from to w) is home makes fit = absurd (true≢false (sym makes ∙ ap makes_group is))
        go (Extend false x from to w) is home makes fit =
            let f : Follows c x from to w = follows c run false x from to w (extend_goes c run s.first first_low read held false x from to w is) in
            let x_low : x < length c.typed.rels = slice_get_within c.typed.rels x _ f.rel_is in
            let from_low : from < length c.typed.nodes = slice_get_within c.typed.nodes from _ f.near in
            let to_low : to < length c.typed.nodes = slice_get_within c.typed.nodes to _ f.far in
            let set : met.set.nodes from ≡ true = extend_reads c.graph.catalog c.typed met.set false x from to w (subst (λ t. runs_step c.graph.catalog c.typed t met.set ≡ true) is fit) in
            let bound = (extend_parts c run s.first first_low read held false x from to w is).1 in
            let near : slice_index row.nodes from ≡ slice_index read.nodes from = same_row c run row read s met from set bound in
            let both = subst (IsHoused fs ch.homes.now i) is home in
            extend_itself c run s.first first_low read held false x from to w j few is
            (λ inside. item_there to both.0 to_low ∙ ap (λ t. slice_index (list_of c s.first row t) j) is
            ∙ ap (λ n. slice_index (neighbours c.graph (rel_table c.typed x) w n) j) near)
            (λ inside. listed_number x from w both.1 x_low from_low)
        go (Close true x from to w) is home makes fit = absurd (true≢false (sym makes ∙ ap makes_group is))
        go (Close false x from to w) is home makes fit =
            let f : Follows c x from to w = follows c run false x from to w (close_goes c run s.first first_low read held false x from to w is) in
            let x_low : x < length c.typed.rels = slice_get_within c.typed.rels x _ f.rel_is in
            let from_low : from < length c.typed.nodes = slice_get_within c.typed.nodes from _ f.near in
            close_itself c run s.first first_low read held false x from to w j few is
            (λ inside. listed_number x from w (subst (IsHoused fs ch.homes.now i) is home) x_low from_low)
        go (Join side keys) is home makes fit = join_there side keys is
        go (Keep k) is home makes fit = absurd (true≢false (sym makes ∙ ap makes_group is))
        go (Differ p) is home makes fit = absurd (true≢false (sym makes ∙ ap makes_group is))
        go (NoLoop x) is home makes fit = absurd (true≢false (sym makes ∙ ap makes_group is))
        go (Single x from to w) is home makes fit = absurd (true≢false (sym makes ∙ ap makes_group is))
        go (Meet x from to w) is home makes fit = absurd (true≢false (sym makes ∙ ap makes_group is))

    -- the steps behind it
    module _ (d : ℕ) (above : s.first < d) (below : d < s.end) (have : IsHeld c read (known c d)) where
      step_low : d < length c.steps
      step_low = let inside = within.inside in omega (arith, inside, below)

      -- what a column extension reads lives in the group, or stands
      reads_near : (x from to : ℕ) (w : Direction) → step_at c d ≡ Extend true x from to w → IsIn ch.homes.now i from ⊎ (slice_index row.nodes from ≡ slice_index read.nodes from)
      reads_near x from to w is =
          let there : Known = Rattle.gq_pipe.proofs.Sources.there c at.runs fs ch.homes.now i s within.inside house others d above below met.set met.fit met.placed in
          let fit : runs_step c.graph.catalog c.typed (step_at c d) there ≡ true = fits_there c at.runs fs ch.homes.now i s within.inside house others d above below met.set met.fit met.placed in
          let set : there.nodes from ≡ true = extend_reads c.graph.catalog c.typed there true x from to w (subst (λ t. runs_step c.graph.catalog c.typed t there ≡ true) is fit) in
          let bound = (extend_parts c at.runs d step_low read have true x from to w is).1 in
          go (set_before c at.runs fs ch.homes.now i s within.inside house others d above below met.set met.fit met.placed from set) (known_before c at.runs fs ch.homes.now i s within.inside house others d from (omega (arith, above)) (omega (arith, below)) bound)
        where
          go : (met.set.nodes from ≡ true) ⊎ IsIn ch.homes.now i from → ((known c s.first).nodes from ≡ true) ⊎ IsIn ch.homes.now i from → IsIn ch.homes.now i from ⊎ (slice_index row.nodes from ≡ slice_index read.nodes from)
          go (inr here) k = inl here
          go (inl set) (inr here) = inl here
          go (inl set) (inl bound) = inr (same_row c at.runs row read s met from set bound)

      next_itself : TriesItself c d 0 read
      next_itself = go (step_at c d) refl (house d (omega (arith, above)) below) (group_others c ss read i low s found pre long at d above below)
        where
          run : IsRun c
          run = at.runs

          go : (t : Step) → step_at c d ≡ t → IsHoused fs ch.homes.now i (step_at c d) → makes_group (step_at c d) ≡ false → TriesItself c d 0 read
          go (Scan v) is home none = absurd (true≢false (ap makes_group (sym is) ∙ none))
          go (Extend true x from to w) is home none =
              let f : Follows c x from to w = follows c run true x from to w (extend_goes c run d step_low read have true x from to w is) in
              let b : HasColumn fs ch.homes.now i x from to w = subst (IsHoused fs ch.homes.now i) is home in
              extend_itself c run d step_low read have true x from to w 0 (omega arith) is
              (λ inside. column_there x from to w b (slice_get_within c.typed.nodes from _ f.near) (slice_get_within c.typed.nodes to _ f.far) (have.rows from (extend_parts c run d step_low read have true x from to w is).1) (reads_near x from to w is))
              (λ inside. single_number x from w b.edge_is (slice_get_within c.typed.rels x _ f.rel_is) (slice_get_within c.typed.nodes from _ f.near))
          go (Extend false x from to w) is home none = absurd (true≢false (ap makes_group (sym is) ∙ none))
          go (Close true x from to w) is home none =
              let f : Follows c x from to w = follows c run true x from to w (close_goes c run d step_low read have true x from to w is) in
              close_itself c run d step_low read have true x from to w 0 (omega arith) is
              (λ inside. single_number x from w (subst (IsHoused fs ch.homes.now i) is home) (slice_get_within c.typed.rels x _ f.rel_is) (slice_get_within c.typed.nodes from _ f.near))
          go (Close false x from to w) is home none = absurd (true≢false (ap makes_group (sym is) ∙ none))
          go (Join side keys) is home none = absurd (true≢false (ap makes_group (sym is) ∙ none))
          go (Keep k) is home none = keep_itself c run d step_low read have k is 0
          go (Differ p) is home none = differ_itself c run d step_low read have p is 0
          go (NoLoop x) is home none = no_loop_itself c run d step_low read have x is 0
          go (Single x from to w) is home none =
              let f : Follows c x from to w = follows c run true x from to w (single_goes c run d step_low read have x from to w is) in
              single_itself c run d step_low read have x from to w 0 (omega arith) is
              (λ inside. single_number x from w (subst (IsHoused fs ch.homes.now i) is home) (slice_get_within c.typed.rels x _ f.rel_is) (slice_get_within c.typed.nodes from _ f.near))
          go (Meet x from to w) is home none = meet_itself c run d step_low read have x from to w is 0

    -- the place is kept, so each step makes something
    kept_all : IsTriedAt c s j read false read → ⊥
    kept_all t = true≢false (sym (group_told c ss read i low s found pre long at j spot.place.inside false read t ∙ spot.place.kept))

    pub record AllMade (d : ℕ) : Type 0 where
      pub tried : IsTriedAt c s j read true read
      pub first_made : d ≤ s.first → IsTried c s.first j read read Made
      pub others_made : (e : ℕ) → s.first < e → d ≤ e → e < s.end → IsTried c e 0 read read Made

    all_made : (n d : ℕ) → d + n ≡ s.end → IsGoing c s j read d read → AllMade d
    all_made zero d at_end g = record {
      tried = ends c s range j read read d g (omega (arith, at_end));
      first_made = λ h. absurd (let some = within.some in omega (arith, h, at_end, some));
      others_made = λ e h up low. absurd (omega (arith, up, low, at_end));
    }
    all_made (suc n) d at_end g = by (λ h. all_made n (suc d) (omega (arith, at_end)) h) (cases_eq d s.first)
      where
        below : d < s.end
        below = omega (arith, at_end)

        first_case : (IsGoing c s j read (suc d) read → AllMade (suc d)) → d ≡ s.first → (t : Tried) → IsTried c s.first j read read t → AllMade d
        first_case on e Past t = absurd (kept_all (tried_past c s range j read d j read read g below (λ h. refl) (λ h. absurd (h e)) (inl e) (subst (λ n. IsTried c n j read read Past) (sym e) t)))
        first_case on e Missed t = absurd (kept_all (tried_missed c s range j read d j read read g below (λ h. refl) (λ h. absurd (h e)) (inl e) (subst (λ n. IsTried c n j read read Missed) (sym e) t)))
        first_case on e Made t =
            let more = on (tried_made c s range j read d j read read g below (λ h. refl) (λ h. absurd (h e)) (inl e) (subst (λ n. IsTried c n j read read Made) (sym e) t)) in
            record {
              tried = more.tried;
              first_made = λ h. t;
              others_made = λ o above up low. more.others_made o above (omega (arith, above, e)) low;
            }

        next_case : (IsGoing c s j read (suc d) read → AllMade (suc d)) → (d ≡ s.first → ⊥) → (t : Tried) → IsTried c d 0 read read t → AllMade d
        next_case on far Past t = absurd (kept_all (tried_past c s range j read d 0 read read g below (λ h. absurd (far h)) (λ h. refl) (inr far) t))
        next_case on far Missed t = absurd (kept_all (tried_missed c s range j read d 0 read read g below (λ h. absurd (far h)) (λ h. refl) (inr far) t))
        next_case on far Made t =
            let above : s.first < d = (let up = g.low in omega (arith, up, far)) in
            let more = on (tried_made c s range j read d 0 read read g below (λ h. absurd (far h)) (λ h. refl) (inr far) t) in
            record {
              tried = more.tried;
              first_made = λ h. absurd (omega (arith, h, above));
              others_made = λ o up_first up low. either o (cases_eq o d) up_first up low more;
            }
          where
            either : (o : ℕ) → (o ≡ d) ⊎ (o ≡ d → ⊥) → s.first < o → d ≤ o → o < s.end → AllMade (suc d) → IsTried c o 0 read read Made
            either o (inl e) up_first up low more = subst (λ n. IsTried c n 0 read read Made) (sym e) t
            either o (inr e) up_first up low more = more.others_made o up_first (omega (arith, up, e)) low

        by : (IsGoing c s j read (suc d) read → AllMade (suc d)) → (d ≡ s.first) ⊎ (d ≡ s.first → ⊥) → AllMade d
        by on (inl e) = first_case on e first_itself.told first_itself.tried
        by on (inr far) =
            let it : TriesItself c d 0 read = next_itself d (let up = g.low in omega (arith, up, far)) below g.held in
            next_case on far it.told it.tried

    pub made : AllMade s.first
    made = all_made (s.end - s.first) s.first (let some = within.some in omega (arith, some)) (begins c s range j read held)

    -- so the group stands too
    pub stands_next : Stands c ss read (prefix cs (i + 1))
    stands_next =
        subst (Stands c ss read) (sym (prefix_more cs i (omega (arith, low, many))))
        (group_next c ss read i low s found pre long at j spot.place.inside true read made.tried (cursor_at cs i).key spot.place.kept spot.place.number_is)

    pub place_is : place c.graph c.typed (built_at c s.first) (group_in c.steps s) (before c read s.first) j ≡ before c read s.end
    place_is = group_place c ss read i low s found pre long at j spot.place.inside true read made.tried (cursor_at cs i).key spot.place.kept spot.place.number_is

  -- all groups stand
  pub all_stand : (i : ℕ) → i ≤ length ss → Stands c ss read (prefix cs i)
  all_stand zero low = stands_first c ss read st.runs st.grouped (length-map (range_with_len 0 (length c.typed.nodes)) (node_at ch ps) ∙ length-range_with_len 0 (length c.typed.nodes)) (length-map (range_with_len 0 (length c.typed.rels)) (rel_at c.graph c.typed ch ps) ∙ length-range_with_len 0 (length c.typed.rels))
  all_stand (suc i) low =
      let next : i + 1 ≡ suc i = omega arith in
      subst (λ n. Stands c ss read (prefix cs n)) next (stands_next i (omega (arith, low)) (all_stand i (omega (arith, low))))

  module _ (walk : List ℕ) (long_walk : length walk ≡ length ss) (each : (i : ℕ) → i < length ss → slice_index walk i ≡ place_at c ss row cs ms ch ps runs many groups sel i) where
    decode_from : (n i d : ℕ) → i + n ≡ length ss → Tiles c d (drop i ss) → decode c.graph c.typed (rows_in c ss) i (groups_in c (drop i ss)) (before c read d) (drop i walk) ≡ before c read (length c.steps)
    decode_from zero i d at_end tiles =
        let none : drop i ss ≡ [] = drop_all i ss (omega (arith, at_end)) in
        ap (λ l. decode c.graph c.typed (rows_in c ss) i (groups_in c l) (before c read d) (drop i walk)) none
        ∙ ap (before c read) (subst (Tiles c d) none tiles)
    decode_from (suc n) i d at_end tiles =
        let low : i < length ss = omega (arith, at_end) in
        let more : drop i ss ≡ group_at ss i ∷ drop (i + 1) ss = drop_more ss i no_group low in
        let walked : drop i walk ≡ slice_index walk i ∷ drop (i + 1) walk = drop_more walk i 0 (omega (arith, low, long_walk)) in
        let tiled = subst (Tiles c d) more tiles in
        ap (λ l. decode c.graph c.typed (rows_in c ss) i (groups_in c l) (before c read d) (drop i walk)) more
        ∙ ap (decode c.graph c.typed (rows_in c ss) i (groups_in c (group_at ss i ∷ drop (i + 1) ss)) (before c read d)) walked
        ∙ ap (λ j. decode c.graph c.typed (rows_in c ss) (i + 1) (groups_in c (drop (i + 1) ss)) (place c.graph c.typed (rows_in c ss i) (group_in c.steps (group_at ss i)) (before c read d) j) (drop (i + 1) walk)) (each i low)
        ∙ ap (λ n. decode c.graph c.typed (rows_in c ss) (i + 1) (groups_in c (drop (i + 1) ss)) (place c.graph c.typed (rows_in c ss i) (group_in c.steps (group_at ss i)) (before c read n) (place_at c ss row cs ms ch ps runs many groups sel i)) (drop (i + 1) walk)) (sym tiled.0)
        ∙ ap (λ a. decode c.graph c.typed (rows_in c ss) (i + 1) (groups_in c (drop (i + 1) ss)) a (drop (i + 1) walk)) (place_is i low (all_stand i (omega (arith, low))))
        ∙ decode_from n (i + 1) (group_at ss i).end (omega (arith, at_end)) tiled.3

    -- what the plan binds at these positions is what the walk binds
    pub reads_walk : given c.typed read (steps c.steps) nothing ≡ decode c.graph c.typed (rows_in c ss) 0 (groups_in c ss) nothing walk
    unfolding before
    reads_walk = given_all c read ∙ sym (decode_from (length ss) 0 0 (zero-add (length ss)) st.grouped.tiles)
