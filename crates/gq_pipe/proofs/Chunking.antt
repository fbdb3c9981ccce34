-- The chunk that stands can be read, and means what its walks bind.
use Rattle.std.proofs.Common.{◌≡◌, ◌⊎◌, inl, inr, ℕ, zero, suc, ◌+◌, ◌-◌, ◌*◌, ◌%◌, ◌^◌, ◌<◌, ◌≤◌, min, Bool, true, false, ◌||◌, nat_eq, None, Some, List, [], ◌∷◌, filter, map, length, drop, refl, sym, ap, ◌∙◌, subst, arith, true≢false, zero-add}
use Rattle.std.specs.Prelude.{slice_index, slice_index_or, All}
use Rattle.std.specs.List.{range_with_len, AllByRecursion}
use Rattle.std.proofs.lemmas.Bool.{and_parts, cases_eq, cases_lt, eqb-true, ltb-true}
use Rattle.std.proofs.lemmas.List.{get_or_default}
use Rattle.std.proofs.lemmas.List.Elements.{All-from_recursion}
use Rattle.std.proofs.lemmas.Option.{get_or_from_slice_get}
use Rattle.gq_bits.specs.declared.TheConstants.{VECTOR}
use Rattle.gq_bits.specs.Places.{is_marked}
use Rattle.gq_group.specs.Chunks.{IsChunk, IsChunkOf, IsColumnIn, IsKeptIn, IsNodeHome, IsRelHome, assignment_at, node_at, edge_at, edge_in, chunk_meaning, group_of, first_in}
use Rattle.gq_group.specs.Edges.{IsEdge, HasEdge}
use Rattle.gq_group.specs.Groups as group
use Rattle.gq_group.specs.Groups.{AreSelected, IsGroup, IsPosition}
use Rattle.gq_group.specs.Pieces.{items_of}
use Rattle.gq_group.specs.declared.chunk.Chunk.{Chunk}
use Rattle.gq_group.specs.declared.group.Group.{Group}
use Rattle.gq_group.specs.declared.home.NodeHome.TheVariants as node
use Rattle.gq_group.specs.declared.home.RelHome.TheVariants as rel
use Rattle.gq_join.specs.Kept.{Held, place_of}
use Rattle.gq_plan.specs.Covers.{after, after_step}
use Rattle.gq_plan.specs.Halves.{runs_step}
use Rattle.gq_plan.specs.Known.{none}
use Rattle.gq_plan.specs.Meaning.{nothing}
use Rattle.gq_plan.specs.Plans.{Plan, Step, Scan, Extend, Close, Join, Keep, Differ, NoLoop, Single, Meet, steps}
use Rattle.gq_plan.specs.Rows.{rel_table}
use Rattle.gq_plan.specs.Soundness.{has_number}
use Rattle.gq_plan.specs.declared.assignment.Assignment.{Assignment}
use Rattle.gq_law_groups.specs.Groups.{decode, makes_group}
use Rattle.gq_search.specs.Layouts.{piece_of}
use Rattle.gq_search.specs.Running as walk
use Rattle.gq_search.specs.Running.{Runs, cursor_at, keys_of, prefix}
use Rattle.gq_search.specs.declared.walker.Cursor.{Cursor}
use Rattle.gq_steps.specs.Built.{HasBuild}
use Rattle.gq_steps.specs.Given.{given}
use Rattle.gq_pipe.specs.steps.Chunks.{AreStanding, IsGroupAt, marked_at, current_at}
use Rattle.gq_steps.specs.Pieces.{HasKept, KeepsOf}
use Rattle.gq_pipe.specs.steps.Cells.{has_cell, marks_in}
use Rattle.gq_homes.specs.Homes.{AreHomes, InGroup, IsHoused, column_group, filling_at, is_forward, node_home, rel_home}
use Rattle.gq_steps.specs.Levels.{Run, step_at, built_at, known, before}
use Rattle.gq_steps.specs.steps.Lists.{rows_in, layout_in, EarlierStand}
use Rattle.gq_steps.specs.Groups.{group_at, groups_in, Tiles}
use Rattle.gq_homes.specs.declared.homes.Filling.{Filling}
use Rattle.gq_steps.specs.declared.group_steps.GroupSteps.{GroupSteps}
use Rattle.gq_steps.proofs.Binding.{fits_at}
use Rattle.gq_homes.proofs.Brings.{knows_keys}
use Rattle.gq_pipe.proofs.Chosen.{way_is, reads_walk, node_read, all_stand, AllMade, made}
use Rattle.gq_pipe.proofs.Filling.{AreCells, cell_marked, out_at}
use Rattle.gq_homes.proofs.Homing.{makes_first}
use Rattle.gq_pipe.proofs.Matched.{build_of, keeps_rel, piece_rows}
use Rattle.gq_pipe.proofs.Piecing.{group_here, list_size, list_few, flat_here, piece_inside}
use Rattle.gq_pipe.proofs.Products.{first_at, shift, shift_long, shift_at, chunk_walks, all_selected, same_on, as_many, items_long, h}
use Rattle.gq_pipe.proofs.Reading.{place_at, first_is}
use Rattle.gq_steps.proofs.Going.{less_held}
use Rattle.gq_steps.proofs.Here.{group_makes}
use Rattle.gq_steps.proofs.Standings.{all_held, stands_part}
use Rattle.gq_steps.proofs.Trying.{extend_can, extend_count, close_can, close_count, single_can, single_count}
use Rattle.gq_steps.specs.Moves.{IsHeld, IsMade}
use Rattle.gq_steps.specs.Follows.{CanFollow}
use Rattle.gq_steps.specs.Tries.{tries}
use Rattle.gq_store.specs.Neighbours.{neighbours}
use Rattle.gq_search.proofs.Runs.{length-keys}
use Rattle.gq_base.specs.declared.direction.Direction.{Direction}

map_map : {X Y Z : Type 0} (f : Y → Z) (h : X → Y) (xs : List X) → map f (map h xs) ≡ map (λ x. f (h x)) xs
map_map f h [] = refl
map_map f h (x ∷ xs) = ap (λ l. f (h x) ∷ l) (map_map f h xs)

module _ (c : Run) (ss : List GroupSteps) (row : Assignment) (cs : List Cursor) (ms : List (List Bool)) (ch : Chunk) (st : EarlierStand c ss row (keys_of cs)) (runs : Runs (layout_in c ss) [] cs ms) (many : length cs ≡ length ss)
    (marks : length ms ≡ length ss) (count : length ch.groups.now ≡ length ss) (groups : AreStanding c ss row cs ms ch.groups.now (length ss))
    (fs : List Filling) (homes : AreHomes c ss (length ss) (length c.steps) fs ch.homes.now) (cols : AreCells c row fs ch) where
  abbrev read_at : List ℕ → Assignment
  read_at ps = assignment_at c.graph c.typed ch ps

  abbrev firsts : ℕ → ℕ
  firsts = first_at c ss row cs ms ch.groups.now st runs many marks count groups

  one_choice : (ps : List ℕ) → AreSelected ch.groups.now ps → given c.typed (read_at ps) (steps c.steps) nothing ≡ decode c.graph c.typed (rows_in c ss) 0 (groups_in c ss) nothing (shift firsts 0 ps)
  one_choice ps sel =
      let long : length ps ≡ length ss = as_many ch.groups.now ps sel ∙ count in
      reads_walk c ss row cs ms ch ps runs many groups sel st fs homes cols (shift firsts 0 ps) (shift_long firsts 0 ps ∙ long)
      (λ i low. shift_at firsts 0 ps i (omega (arith, low, long)) ∙ ap (λ n. firsts n + slice_index ps i) (zero-add i))

  -- what the plan binds at the choices of the chunk is what its walks bind
  pub chunk_binds : map (λ row. given c.typed row (steps c.steps) nothing) (chunk_meaning c.graph c.typed ch) ≡ map (decode c.graph c.typed (rows_in c ss) 0 (groups_in c ss) nothing) (walk.choices (layout_in c ss) [] cs ms)
  chunk_binds =
      map_map (λ row. given c.typed row (steps c.steps) nothing) read_at (group.choices ch.groups.now)
      ∙ same_on (AreSelected ch.groups.now) (λ ps. given c.typed (read_at ps) (steps c.steps) nothing) (λ ps. decode c.graph c.typed (rows_in c ss) 0 (groups_in c ss) nothing (shift firsts 0 ps)) (group.choices ch.groups.now) one_choice (all_selected ch.groups.now)
      ∙ sym (map_map (decode c.graph c.typed (rows_in c ss) 0 (groups_in c ss) nothing) (shift firsts 0) (group.choices ch.groups.now))
      ∙ ap (map (decode c.graph c.typed (rows_in c ss) 0 (groups_in c ss) nothing)) (sym (chunk_walks c ss row cs ms ch.groups.now st runs many marks count groups))

  -- ---- it can be read

  is_group : (i : ℕ) (low : i < length ss) → IsGroup (h c ss row cs ms ch.groups.now st runs many marks count groups i low).group
  is_group i low =
      let g : Group = (h c ss row cs ms ch.groups.now st runs many marks count groups i low).group in
      let is : IsGroupAt c row (group_at ss i) (cursor_at cs i) (slice_index_or ms i []) g = (h c ss row cs ms ch.groups.now st runs many marks count groups i low).is in
      let long : length (items_of g.piece) ≡ min VECTOR ((layout_in c ss).size (prefix cs i) - firsts i) = items_long c ss row cs ms ch.groups.now st runs many marks count groups i low in
      let inside = piece_inside c ss row cs ms st runs many i low in
      let few = list_few c ss row cs ms st runs many i low in
      let size = list_size c ss row cs ms st runs many i low in
      let first = is.piece.first_is in
      record {
        piece = record { few = omega (arith, long); fits = omega (arith, long, first, inside, few, size) };
        marked = λ p on. below p (group_at ss i).flat (flat_here c ss row cs ms st runs many i low) long (sym (is.marks p) ∙ on);
        current = subst IsPosition (sym is.current) (small (group_at ss i).flat);
      }
    where
      key : ℕ
      key = (cursor_at cs i).key

      r : walk.IsGroup (layout_in c ss) (prefix cs i) (cursor_at cs i) (slice_index_or ms i [])
      r = group_here c ss row cs ms st runs many i low

      small : (f : Bool) → IsPosition (current_at f key)
      small true = omega arith
      small false = tt

      marked_low : (m : List Bool) (p : ℕ) → is_marked m p ≡ true → p < length m
      marked_low [] p on = absurd (true≢false (sym on))
      marked_low (b ∷ m) zero on = omega arith
      marked_low (b ∷ m) (suc p) on = let low = marked_low m p on in omega (arith, low)

      below : (p : ℕ) (f : Bool) → (layout_in c ss).flat (prefix cs i) ≡ f → length (items_of (h c ss row cs ms ch.groups.now st runs many marks count groups i low).group.piece) ≡ min VECTOR ((layout_in c ss).size (prefix cs i) - VECTOR * piece_of f key)
          → marked_at f key (slice_index_or ms i []) p ≡ true → p < length (items_of (h c ss row cs ms ch.groups.now st runs many marks count groups i low).group.piece)
      below p true flat long on =
          let within : key < (layout_in c ss).size (prefix cs i) = subst (λ b. key < Rattle.gq_search.specs.Layouts.numbers_in b ((layout_in c ss).size (prefix cs i))) flat r.key_in in
          let same : p ≡ key % VECTOR = eqb-true p (key % VECTOR) on in
          omega (arith, same, within, long)
      below p false flat long on =
          let m : List Bool = slice_index_or ms i [] in
          let marked : Rattle.gq_search.specs.Marked.IsMarkedAt (layout_in c ss) (prefix cs i) key m = subst (λ b. Rattle.gq_search.specs.Marked.IsMarkedAt (layout_in c ss) (prefix cs i) (piece_of b key) m) flat r.marked in
          let short = marked_low m p on in
          let wide = marked.len in
          let both = and_parts _ _ (sym (marked.each p (omega (arith, short, wide))) ∙ on) in
          let low : VECTOR * key + p < (layout_in c ss).size (prefix cs i) = ltb-true (VECTOR * key + p) ((layout_in c ss).size (prefix cs i)) both.0 in
          omega (arith, low, long, short, wide)

  all_groups : All IsGroup ch.groups.now
  all_groups i d low =
      let inside : i < length ss = omega (arith, low, count) in
      subst IsGroup (sym (get_or_from_slice_get ch.groups.now i _ d (h c ss row cs ms ch.groups.now st runs many marks count groups i inside).there)) (is_group i inside)

  -- each step stands in a group
  tile_of : (ts : List GroupSteps) (d e : ℕ) → Tiles c d ts → d ≤ e → e < length c.steps → (i : ℕ) × (i < length ts) × InGroup ts i e
  tile_of [] d e t low high = absurd (omega (arith, t, low, high))
  tile_of (s ∷ ts) d e t low high = go (cases_lt e s.end) (λ up. tile_of ts s.end e t.3 up high)
    where
      go : (e < s.end) ⊎ (s.end ≤ e) → (s.end ≤ e → (i : ℕ) × (i < length ts) × InGroup ts i e) → (i : ℕ) × (i < length (s ∷ ts)) × InGroup (s ∷ ts) i e
      go (inl less) more = let at = t.0 in (0, omega arith, record { low = omega (arith, at, low); high = less })
      go (inr up) more = let r = more up in let inside = r.1 in (suc r.0, omega (arith, inside), record { low = r.2.low; high = r.2.high })

  -- a variable that is bound is bound by a step
  node_step : (d v : ℕ) → (known c d).nodes v ≡ true → (e : ℕ) × (e < d) × ((known c e).nodes v ≡ false) × ((after_step (step_at c e) (known c e)).nodes v ≡ true)
  unfolding known
  node_step zero v h = absurd (true≢false (sym h))
  node_step (suc d) v h = go ((known c d).nodes v) refl (λ e. node_step d v e)
    where
      go : (b : Bool) → (known c d).nodes v ≡ b → ((known c d).nodes v ≡ true → (e : ℕ) × (e < d) × ((known c e).nodes v ≡ false) × ((after_step (step_at c e) (known c e)).nodes v ≡ true))
          → (e : ℕ) × (e < suc d) × ((known c e).nodes v ≡ false) × ((after_step (step_at c e) (known c e)).nodes v ≡ true)
      go true is more = let r = more is in let low = r.1 in (r.0, omega (arith, low), r.2, r.3)
      go false is more = (d, omega arith, is, h)

  rel_step : (d x : ℕ) → (known c d).rels x ≡ true → (e : ℕ) × (e < d) × ((known c e).rels x ≡ false) × ((after_step (step_at c e) (known c e)).rels x ≡ true)
  unfolding known
  rel_step zero x h = absurd (true≢false (sym h))
  rel_step (suc d) x h = go ((known c d).rels x) refl (λ e. rel_step d x e)
    where
      go : (b : Bool) → (known c d).rels x ≡ b → ((known c d).rels x ≡ true → (e : ℕ) × (e < d) × ((known c e).rels x ≡ false) × ((after_step (step_at c e) (known c e)).rels x ≡ true))
          → (e : ℕ) × (e < suc d) × ((known c e).rels x ≡ false) × ((after_step (step_at c e) (known c e)).rels x ≡ true)
      go true is more = let r = more is in let low = r.1 in (r.0, omega (arith, low), r.2, r.3)
      go false is more = (d, omega arith, is, h)

  -- what a step binds lives in its group
  house_of : (e : ℕ) → e < length c.steps → (i : ℕ) × (i < length ss) × InGroup ss i e × IsHoused fs ch.homes.now i (step_at c e)
  house_of e low = let t = tile_of ss 0 e st.grouped.tiles (omega arith) low in (t.0, t.1, t.2, (homes.done t.0 e t.1 t.2).1)

  right_true : (a b : Bool) → (a || b) ≡ true → b ≡ false → a ≡ true
  right_true true b h e = refl
  right_true false b h e = absurd (true≢false (sym h ∙ e))

  same_var : (v w : ℕ) (k : Bool) → (nat_eq v w || k) ≡ true → k ≡ false → w ≡ v
  same_var v w k h e = sym (eqb-true v w (right_true (nat_eq v w) k h e))

  -- a column has a row at each marked position
  column_in : (i n : ℕ) → i < length ss → n < length fs → column_group (filling_at fs n) ≡ i → IsColumnIn ch (group_of ch i) n
  column_in i n low inside mine =
      let g : Group = (h c ss row cs ms ch.groups.now st runs many marks count groups i low).group in
      let is : IsGroup g = is_group i low in
      let room = cols.room in
      let within : n < length ch.slots.now = omega (arith, inside, room) in
      subst (λ o. IsColumnIn ch o n) (sym (h c ss row cs ms ch.groups.now st runs many marks count groups i low).there)
      (record {
        within = within;
        out = out_at ch.pool.now ch.slots.now n cols.held within;
        rows = λ p on.
            (let below = is.marked p on in
            let short = is.piece.few in
            let has : has_cell ch.groups.now (filling_at fs n) p ≡ true =
            ap (λ k. is_marked (marks_in (group_of ch k)) p) mine ∙ ap (λ o. is_marked (marks_in o) p) (h c ss row cs ms ch.groups.now st runs many marks count groups i low).there ∙ on in
            let cell = cols.cells n p _ (cell_marked c row ch.groups.now ch.homes.now fs (length fs) n p inside (omega (arith, below, short)) has) in
            (_, cell.is, cell.few));
      })

  node_houses : (v : ℕ) → IsNodeHome ch (node_home ch.homes.now v)
  unfolding after_step
  node_houses v = go ((known c (length c.steps)).nodes v) refl
    where
      bound : (e i : ℕ) → e < length c.steps → i < length ss → (s : Step) → step_at c e ≡ s → IsHoused fs ch.homes.now i s → (known c e).nodes v ≡ false → (after_step s (known c e)).nodes v ≡ true → IsNodeHome ch (node_home ch.homes.now v)
      bound e i low inside (Scan w) is house free now =
          let home : node_home ch.homes.now v ≡ node.Item i = ap (node_home ch.homes.now) (sym (same_var v w ((known c e).nodes v) now free)) ∙ house in
          subst (IsNodeHome ch) (sym home) (omega (arith, inside, count))
      bound e i low inside (Extend true x from to w) is house free now =
          let home : node_home ch.homes.now v ≡ node.Column i house.column = ap (node_home ch.homes.now) (sym (same_var v to ((known c e).nodes v) now free)) ∙ house.node_is in
          subst (IsNodeHome ch) (sym home) (column_in i house.column inside house.inside (ap column_group house.filling))
      bound e i low inside (Extend false x from to w) is house free now =
          let home : node_home ch.homes.now v ≡ node.Item i = ap (node_home ch.homes.now) (sym (same_var v to ((known c e).nodes v) now free)) ∙ house.0 in
          subst (IsNodeHome ch) (sym home) (omega (arith, inside, count))
      bound e i low inside (Close column x from to w) is house free now = absurd (true≢false (sym now ∙ free))
      bound e i low inside (Join side keys) is house free now = go (has_number keys v) refl
        where
          go : (b : Bool) → has_number keys v ≡ b → IsNodeHome ch (node_home ch.homes.now v)
          go true key = absurd (true≢false (sym (knows_keys c.graph.catalog c.typed (Join side keys) (known c e) (subst (λ t. runs_step c.graph.catalog c.typed t (known c e) ≡ true) is (fits_at c st.runs e low)) v key) ∙ free))
          go false other =
              let has = house.nodes v (right_true ((after side none).nodes v) ((known c e).nodes v) now free) other in
              subst (IsNodeHome ch) (sym has.node_is) (column_in i has.column inside has.inside (ap column_group has.filling))
      bound e i low inside (Keep t) is house free now = absurd (true≢false (sym now ∙ free))
      bound e i low inside (Differ p) is house free now = absurd (true≢false (sym now ∙ free))
      bound e i low inside (NoLoop x) is house free now = absurd (true≢false (sym now ∙ free))
      bound e i low inside (Single x from to w) is house free now = absurd (true≢false (sym now ∙ free))
      bound e i low inside (Meet x from to w) is house free now = absurd (true≢false (sym now ∙ free))

      go : (b : Bool) → (known c (length c.steps)).nodes v ≡ b → IsNodeHome ch (node_home ch.homes.now v)
      go false is = subst (IsNodeHome ch) (sym (homes.free_nodes v is)) tt
      go true is =
          let r = node_step (length c.steps) v is in
          let t = house_of r.0 r.1 in
          bound r.0 t.0 r.1 t.1 (step_at c r.0) refl t.3 r.2 r.3

  -- how a relationship variable is bound
  record RelBound (x : ℕ) : Type 0 where
    step : ℕ
    group : ℕ
    low : step < length c.steps
    inside : group < length ss
    there : InGroup ss group step
    house : IsHoused fs ch.homes.now group (step_at c step)
    free : (known c step).rels x ≡ false
    now : (after_step (step_at c step) (known c step)).rels x ≡ true

  rel_bound : (x : ℕ) → (known c (length c.steps)).rels x ≡ true → RelBound x
  rel_bound x is =
      let r = rel_step (length c.steps) x is in
      let t = house_of r.0 r.1 in
      record { step = r.0; group = t.0; low = r.1; inside = t.1; there = t.2; house = t.3; free = r.2; now = r.3 }

  -- a step that makes a group is its first one
  is_first : (i e : ℕ) (low : i < length ss) → InGroup ss i e → makes_group (step_at c e) ≡ true → e ≡ (group_at ss i).first
  is_first i e low there makes = makes_first c ss i e st.grouped.tiles st.grouped.cut low there.low there.high makes

  -- a relationship that the build of a group keeps has a number at each marked position
  kept_in_group : (i : ℕ) → i < length ss → (side : Plan) (keys : List ℕ) (b : Held) (place : ℕ) → step_at c (group_at ss i).first ≡ Join side keys → slice_index_or c.builds (group_at ss i).first None ≡ Some b → place < length b.rels → IsKeptIn (group_of ch i) place
  kept_in_group i low side keys b place is there inside =
      let g : Group = (h c ss row cs ms ch.groups.now st runs many marks count groups i low).group in
      let at : IsGroupAt c row (group_at ss i) (cursor_at cs i) (slice_index_or ms i []) g = (h c ss row cs ms ch.groups.now st runs many marks count groups i low).is in
      let k : HasKept b g.kept = subst (λ o. KeepsOf o g.kept) there at.kept in
      let rows : AllByRecursion (λ r. r < length b.rows) (items_of g.piece) = piece_rows c (group_at ss i).first row side keys is b there g.piece _ at.piece in
      subst (λ o. IsKeptIn o place) (sym (h c ss row cs ms ch.groups.now st runs many marks count groups i low).there)
      (record {
        narrow = k.narrow;
        numbers = λ p on.
            (let row_low : slice_index (items_of g.piece) p < length b.rows = All-from_recursion (λ r. r < length b.rows) (items_of g.piece) rows p 0 ((is_group i low).marked p on) in
            subst (λ w. slice_index (items_of g.piece) p * w + place < length g.kept.numbers.now) (sym k.width) (k.inside (slice_index (items_of g.piece) p) place row_low inside));
      })

  rel_houses : (x : ℕ) → IsRelHome ch (rel_home ch.homes.now x)
  unfolding after_step
  rel_houses x = go ((known c (length c.steps)).rels x) refl
    where
      bound : (e i : ℕ) → e < length c.steps → i < length ss → InGroup ss i e → (s : Step) → step_at c e ≡ s → IsHoused fs ch.homes.now i s → (known c e).rels x ≡ false → (after_step s (known c e)).rels x ≡ true → IsRelHome ch (rel_home ch.homes.now x)
      bound e i low inside there (Scan w) is house free now = absurd (true≢false (sym now ∙ free))
      bound e i low inside there (Extend true z from to w) is house free now =
          let home : rel_home ch.homes.now x ≡ rel.Single from (is_forward w) = ap (rel_home ch.homes.now) (sym (same_var x z ((known c e).rels x) now free)) ∙ house.edge_is in
          subst (IsRelHome ch) (sym home) tt
      bound e i low inside there (Extend false z from to w) is house free now =
          let home : rel_home ch.homes.now x ≡ rel.Listed i from (is_forward w) = ap (rel_home ch.homes.now) (sym (same_var x z ((known c e).rels x) now free)) ∙ house.1 in
          subst (IsRelHome ch) (sym home) (omega (arith, inside, count))
      bound e i low inside there (Close true z from to w) is house free now =
          let home : rel_home ch.homes.now x ≡ rel.Single from (is_forward w) = ap (rel_home ch.homes.now) (sym (same_var x z ((known c e).rels x) now free)) ∙ house in
          subst (IsRelHome ch) (sym home) tt
      bound e i low inside there (Close false z from to w) is house free now =
          let home : rel_home ch.homes.now x ≡ rel.Listed i from (is_forward w) = ap (rel_home ch.homes.now) (sym (same_var x z ((known c e).rels x) now free)) ∙ house in
          subst (IsRelHome ch) (sym home) (omega (arith, inside, count))
      bound e i low inside there (Join side keys) is house free now =
          let own : (after side none).rels x ≡ true = right_true ((after side none).rels x) ((known c e).rels x) now free in
          let first : e ≡ (group_at ss i).first = is_first i e inside there (ap makes_group is) in
          let b : HasBuild c.graph c.typed side keys (slice_index_or c.builds e None) = build_of c st.runs e low side keys is in
          let home : rel_home ch.homes.now x ≡ rel.Kept i (place_of b.build.rels x) =
          house.rels x own ∙ ap (λ n. rel.Kept i (place_of (filter (after side none).rels (range_with_len 0 n)) x)) homes.rel_count ∙ ap (λ l. rel.Kept i (place_of l x)) (sym b.is.rels) in
          subst (IsRelHome ch) (sym home) (
            (let many = count in omega (arith, inside, many)),
            kept_in_group i inside side keys b.build (place_of b.build.rels x) (subst (λ d. step_at c d ≡ Join side keys) first is) (subst (λ d. slice_index_or c.builds d None ≡ Some b.build) first b.there)
                (keeps_rel c st.runs e low side keys is b.build b.is x own),
          )
      bound e i low inside there (Keep t) is house free now = absurd (true≢false (sym now ∙ free))
      bound e i low inside there (Differ p) is house free now = absurd (true≢false (sym now ∙ free))
      bound e i low inside there (NoLoop z) is house free now = absurd (true≢false (sym now ∙ free))
      bound e i low inside there (Single z from to w) is house free now =
          let home : rel_home ch.homes.now x ≡ rel.Single from (is_forward w) = ap (rel_home ch.homes.now) (sym (same_var x z ((known c e).rels x) now free)) ∙ house in
          subst (IsRelHome ch) (sym home) tt
      bound e i low inside there (Meet z from to w) is house free now = absurd (true≢false (sym now ∙ free))

      go : (b : Bool) → (known c (length c.steps)).rels x ≡ b → IsRelHome ch (rel_home ch.homes.now x)
      go false is = subst (IsRelHome ch) (sym (homes.free_rels x is)) tt
      go true is = let r = rel_bound x is in bound r.step r.group r.low r.inside r.there (step_at c r.step) refl r.house r.free r.now

  pub is_chunk : length ss < 2 ^ 32 → IsChunk ch
  is_chunk few = record {
    few = omega (arith, few, count);
    groups = all_groups;
    nodes = λ v d low. subst (IsNodeHome ch) (get_or_default ch.homes.now.nodes v node.Nowhere d low) (node_houses v);
    rels = λ x d low. subst (IsRelHome ch) (get_or_default ch.homes.now.rels x rel.Nowhere d low) (rel_houses x);
  }

  -- the relationships are of the graph
  module _ (ps : List ℕ) (sel : AreSelected ch.groups.now ps) where
    abbrev a : Assignment
    a = assignment_at c.graph c.typed ch ps

    held_at : (e : ℕ) → e ≤ length c.steps → IsHeld c a (known c e)
    held_at e low =
        less_held c e (length c.steps) a low
        (all_held c ss a (prefix cs (length ss)) (length-keys cs (length ss) (omega (arith, many))) (all_stand c ss row cs ms ch ps runs many groups sel st fs homes cols (length ss) (omega arith)))

    some_left : {X : Type 0} (xs : List X) (n : ℕ) (x : X) (rest : List X) → drop n xs ≡ x ∷ rest → n < length xs
    some_left [] zero x rest e = absurd (cc e)
    some_left [] (suc n) x rest e = absurd (cc e)
    some_left (y ∷ xs) zero x rest e = omega arith
    some_left (y ∷ xs) (suc n) x rest e = let low = some_left xs n x rest e in omega (arith, low)

    -- a relationship of a group's list, and the one of a column
    listed_edge : (x from to : ℕ) (w : Direction) (i : ℕ) → i < length ss → rel_home ch.homes.now x ≡ rel.Listed i from (is_forward w) → CanFollow c.graph c.typed a (record { rel = x; from = from; to = to; direction = w })
        → place_at c ss row cs ms ch ps runs many groups sel i < length (neighbours c.graph (rel_table c.typed x) w (slice_index a.nodes from)) → IsEdge c.graph (rel_table c.typed x) (edge_at ch ps x)
    listed_edge x from to w i low home can inside =
        let read : slice_index a.nodes from ≡ node_at ch ps from = node_read c ss row cs ms ch ps runs many groups sel st fs homes cols from can.from in
        subst (λ h. IsEdge c.graph (rel_table c.typed x) (edge_in ch ps h)) (sym home)
        (subst (λ d. HasEdge c.graph (rel_table c.typed x) d (node_at ch ps from) (first_in (group_of ch i) + slice_index ps i)) (sym (way_is w))
        (subst (λ n. HasEdge c.graph (rel_table c.typed x) w n (first_in (group_of ch i) + slice_index ps i)) read
        (subst (λ f. HasEdge c.graph (rel_table c.typed x) w (slice_index a.nodes from) (f + slice_index ps i)) (sym (first_is c ss row cs ms ch ps runs many groups sel i low))
        (record { within = can.table; vertex = can.row; there = inside }))))

    single_edge : (x from to : ℕ) (w : Direction) → rel_home ch.homes.now x ≡ rel.Single from (is_forward w) → CanFollow c.graph c.typed a (record { rel = x; from = from; to = to; direction = w })
        → 0 < length (neighbours c.graph (rel_table c.typed x) w (slice_index a.nodes from)) → IsEdge c.graph (rel_table c.typed x) (edge_at ch ps x)
    single_edge x from to w home can inside =
        let read : slice_index a.nodes from ≡ node_at ch ps from = node_read c ss row cs ms ch ps runs many groups sel st fs homes cols from can.from in
        subst (λ h. IsEdge c.graph (rel_table c.typed x) (edge_in ch ps h)) (sym home)
        (subst (λ d. HasEdge c.graph (rel_table c.typed x) d (node_at ch ps from) 0) (sym (way_is w))
        (subst (λ n. HasEdge c.graph (rel_table c.typed x) w n 0) read
        (record { within = can.table; vertex = can.row; there = inside })))

    edge_of : (x : ℕ) → IsEdge c.graph (rel_table c.typed x) (edge_at ch ps x)
    unfolding after_step
    edge_of x = go ((known c (length c.steps)).rels x) refl
      where
        module_made : (i : ℕ) (low : i < length ss) → AllMade c ss row cs ms ch ps runs many groups sel st fs homes cols i low (all_stand c ss row cs ms ch ps runs many groups sel st fs homes cols i (omega (arith, low))) (group_at ss i).first
        module_made i low = made c ss row cs ms ch ps runs many groups sel st fs homes cols i low (all_stand c ss row cs ms ch ps runs many groups sel st fs homes cols i (omega (arith, low)))

        -- one that makes none stands behind it
        behind : (i e : ℕ) → i < length ss → InGroup ss i e → makes_group (step_at c e) ≡ false → (group_at ss i).first < e
        behind i e low there none = by (cases_eq e (group_at ss i).first)
          where
            by : (e ≡ (group_at ss i).first) ⊎ (e ≡ (group_at ss i).first → ⊥) → (group_at ss i).first < e
            by (inl first) = absurd (true≢false (sym (group_makes c ss row i low (group_at ss i) (get_or_default ss i Rattle.gq_steps.specs.Groups.no_group (group_at ss i) low) (prefix cs i) (length-keys cs i (omega (arith, low, many))) (stands_part c ss row cs i low st)) ∙ ap (λ n. makes_group (step_at c n)) (sym first) ∙ none))
            by (inr other) = let above = there.low in omega (arith, above, other)

        bound : (e i : ℕ) → e < length c.steps → (low : i < length ss) → InGroup ss i e → (s : Step) → step_at c e ≡ s → IsHoused fs ch.homes.now i s → (known c e).rels x ≡ false → (after_step s (known c e)).rels x ≡ true → IsEdge c.graph (rel_table c.typed x) (edge_at ch ps x)
        bound e i e_low low there (Scan w) is house free now = absurd (true≢false (sym now ∙ free))
        bound e i e_low low there (Extend true z from to w) is house free now =
            let same : z ≡ x = same_var x z ((known c e).rels x) now free in
            let above : (group_at ss i).first < e = behind i e low there (ap makes_group is) in
            let up = there.low in
            let t : IsMade c e 0 a a = (module_made i low).others_made e above up there.high in
            let inside = some_left (tries c.graph c.typed (built_at c e) (step_at c e) (before c a e)) 0 _ _ t.made in
            let most = extend_count c st.runs e e_low a (held_at e (omega (arith, e_low))) true z from to w is in
            subst (λ n. IsEdge c.graph (rel_table c.typed n) (edge_at ch ps n)) same
            (single_edge z from to w house.edge_is (extend_can c st.runs e e_low a (held_at e (omega (arith, e_low))) true z from to w is) (omega (arith, inside, most)))
        bound e i e_low low there (Extend false z from to w) is house free now =
            let same : z ≡ x = same_var x z ((known c e).rels x) now free in
            let first : e ≡ (group_at ss i).first = is_first i e low there (ap makes_group is) in
            let t : IsMade c e (place_at c ss row cs ms ch ps runs many groups sel i) a a = subst (λ n. IsMade c n (place_at c ss row cs ms ch ps runs many groups sel i) a a) (sym first) ((module_made i low).first_made (omega arith)) in
            let inside = some_left (tries c.graph c.typed (built_at c e) (step_at c e) (before c a e)) (place_at c ss row cs ms ch ps runs many groups sel i) _ _ t.made in
            let most = extend_count c st.runs e e_low a (held_at e (omega (arith, e_low))) false z from to w is in
            subst (λ n. IsEdge c.graph (rel_table c.typed n) (edge_at ch ps n)) same
            (listed_edge z from to w i low house.1 (extend_can c st.runs e e_low a (held_at e (omega (arith, e_low))) false z from to w is) (omega (arith, inside, most)))
        bound e i e_low low there (Close false z from to w) is house free now =
            let same : z ≡ x = same_var x z ((known c e).rels x) now free in
            let first : e ≡ (group_at ss i).first = is_first i e low there (ap makes_group is) in
            let t : IsMade c e (place_at c ss row cs ms ch ps runs many groups sel i) a a = subst (λ n. IsMade c n (place_at c ss row cs ms ch ps runs many groups sel i) a a) (sym first) ((module_made i low).first_made (omega arith)) in
            let inside = some_left (tries c.graph c.typed (built_at c e) (step_at c e) (before c a e)) (place_at c ss row cs ms ch ps runs many groups sel i) _ _ t.made in
            let most = close_count c st.runs e e_low a (held_at e (omega (arith, e_low))) false z from to w is in
            subst (λ n. IsEdge c.graph (rel_table c.typed n) (edge_at ch ps n)) same
            (listed_edge z from to w i low house (close_can c st.runs e e_low a (held_at e (omega (arith, e_low))) false z from to w is) (omega (arith, inside, most)))
        bound e i e_low low there (Close true z from to w) is house free now =
            let same : z ≡ x = same_var x z ((known c e).rels x) now free in
            let above : (group_at ss i).first < e = behind i e low there (ap makes_group is) in
            let up = there.low in
            let t : IsMade c e 0 a a = (module_made i low).others_made e above up there.high in
            let inside = some_left (tries c.graph c.typed (built_at c e) (step_at c e) (before c a e)) 0 _ _ t.made in
            let most = close_count c st.runs e e_low a (held_at e (omega (arith, e_low))) true z from to w is in
            subst (λ n. IsEdge c.graph (rel_table c.typed n) (edge_at ch ps n)) same
            (single_edge z from to w house (close_can c st.runs e e_low a (held_at e (omega (arith, e_low))) true z from to w is) (omega (arith, inside, most)))
        bound e i e_low low there (Join side keys) is house free now =
            subst (λ h. IsEdge c.graph (rel_table c.typed x) (edge_in ch ps h)) (sym (house.rels x (right_true ((after side none).rels x) ((known c e).rels x) now free))) tt
        bound e i e_low low there (Keep t) is house free now = absurd (true≢false (sym now ∙ free))
        bound e i e_low low there (Differ p) is house free now = absurd (true≢false (sym now ∙ free))
        bound e i e_low low there (NoLoop z) is house free now = absurd (true≢false (sym now ∙ free))
        bound e i e_low low there (Single z from to w) is house free now =
            let same : z ≡ x = same_var x z ((known c e).rels x) now free in
            let above : (group_at ss i).first < e = behind i e low there (ap makes_group is) in
            let up = there.low in
            let t : IsMade c e 0 a a = (module_made i low).others_made e above up there.high in
            let inside = some_left (tries c.graph c.typed (built_at c e) (step_at c e) (before c a e)) 0 _ _ t.made in
            let most = single_count c st.runs e e_low a (held_at e (omega (arith, e_low))) z from to w is in
            subst (λ n. IsEdge c.graph (rel_table c.typed n) (edge_at ch ps n)) same
            (single_edge z from to w house (single_can c st.runs e e_low a (held_at e (omega (arith, e_low))) z from to w is) (omega (arith, inside, most)))
        bound e i e_low low there (Meet z from to w) is house free now = absurd (true≢false (sym now ∙ free))

        go : (b : Bool) → (known c (length c.steps)).rels x ≡ b → IsEdge c.graph (rel_table c.typed x) (edge_at ch ps x)
        go false is = subst (λ h. IsEdge c.graph (rel_table c.typed x) (edge_in ch ps h)) (sym (homes.free_rels x is)) tt
        go true is = let r = rel_bound x is in bound r.step r.group r.low r.inside r.there (step_at c r.step) refl r.house r.free r.now

  pub is_chunk_of : length ss < 2 ^ 32 → IsChunkOf c.graph c.typed ch
  is_chunk_of few = record { chunk = is_chunk few; edges = λ ps sel x low. edge_of ps sel x }
