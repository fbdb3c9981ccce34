-- A group that stands at the number at which it stood.
use Rattle.std.proofs.Common.{◌≡◌, ◌⊎◌, inl, inr, ℕ, zero, suc, ◌+◌, ◌*◌, ◌%◌, ◌<◌, ◌≤◌, Bool, true, false, Some, List, [], ◌∷◌, length, refl, sym, ap, ap₂, ◌∙◌, subst, arith, true≢false}
use Rattle.std.specs.Prelude.{slice_index_or, slice_get}
use Rattle.std.proofs.lemmas.Bool.{cases_eq, cases_lt}
use Rattle.std.proofs.lemmas.List.{get_or_default}
use Rattle.gq_bits.specs.declared.TheConstants.{VECTOR}
use Rattle.gq_bits.specs.Places.{is_marked}
use Rattle.gq_group.specs.declared.group.Group.{Group}
use Rattle.gq_join.specs.Kept.{matches, values_of}
use Rattle.gq_plan.specs.Covers.{after}
use Rattle.gq_plan.specs.Halves.{runs_step}
use Rattle.gq_plan.specs.Known.{none}
use Rattle.gq_plan.specs.Plans.{Step, Scan, Extend, Close, Join, Keep, Differ, NoLoop, Single, Meet}
use Rattle.gq_plan.specs.Rows.{rel_table}
use Rattle.gq_plan.specs.declared.assignment.Assignment.{Assignment}
use Rattle.gq_store.specs.Neighbours.{neighbours}
use Rattle.gq_law_groups.specs.Groups.{makes_group}
use Rattle.gq_search.specs.Layouts.{piece_of}
use Rattle.gq_search.specs.Marked.{IsMarkedAt}
use Rattle.gq_search.specs.Running.{Runs, cursor_at, keys_of, prefix}
use Rattle.gq_search.specs.declared.walker.Cursor.{Cursor}
use Rattle.gq_search.proofs.Runs.{length-keys}
use Rattle.gq_steps.specs.Built.{HasBuild}
use Rattle.gq_pipe.specs.steps.Chunks.{AreStanding, HasGroup, IsGroupAt, ShowsNumber, StoodAt, current_at, marked_at}
use Rattle.gq_steps.specs.Pieces.{list_of, matches_in, part}
use Rattle.gq_steps.specs.Levels.{Run, step_at, known}
use Rattle.gq_steps.specs.steps.Lists.{layout_in, EarlierStand}
use Rattle.gq_steps.specs.Groups.{no_group, group_at}
use Rattle.gq_steps.specs.Moves.{IsRun, IsHeld}
use Rattle.gq_steps.specs.declared.group_steps.GroupSteps.{GroupSteps}
use Rattle.gq_steps.proofs.Binding.{fits_at}
use Rattle.gq_pipe.proofs.Chosen.{close_reads, extend_reads}
use Rattle.gq_sift.proofs.Matching.{join_reads, same_values}
use Rattle.gq_steps.proofs.Here.{group_held, group_makes}
use Rattle.gq_steps.proofs.Joined.{build}
use Rattle.gq_pipe.proofs.Piecing.{flat_here, group_here}
use Rattle.gq_steps.proofs.Standings.{IsWithin, Met, both_stand, same_row, stands_part, tile_at}

-- the list of a step is the same for two assignments with which the groups before it stand
module _ (c : Run) (run : IsRun c) (one two : Assignment) (s : GroupSteps) (m : Met c one two s) (low : s.first < length c.steps) (makes : makes_group (step_at c s.first) ≡ true) (held : IsHeld c one (known c s.first)) where
  knows : (t : Step) → step_at c s.first ≡ t → runs_step c.graph.catalog c.typed t (known c s.first) ≡ true
  knows t is = subst (λ t. runs_step c.graph.catalog c.typed t (known c s.first) ≡ true) is (fits_at c run s.first low)

  sets : (t : Step) → step_at c s.first ≡ t → runs_step c.graph.catalog c.typed t m.set ≡ true
  sets t is = subst (λ t. runs_step c.graph.catalog c.typed t m.set ≡ true) is m.fit

  pub same_list : list_of c s.first one (step_at c s.first) ≡ list_of c s.first two (step_at c s.first)
  same_list = go (step_at c s.first) refl makes
    where
      go : (t : Step) → step_at c s.first ≡ t → makes_group (step_at c s.first) ≡ true → list_of c s.first one (step_at c s.first) ≡ list_of c s.first two (step_at c s.first)
      go (Scan v) is h = ap (list_of c s.first one) is ∙ sym (ap (list_of c s.first two) is)
      go (Extend column x from to w) is h =
          ap (list_of c s.first one) is
          ∙ ap (neighbours c.graph (rel_table c.typed x) w) (same_row c run one two s m from (extend_reads c.graph.catalog c.typed m.set column x from to w (sets (Extend column x from to w) is)) (extend_reads c.graph.catalog c.typed (known c s.first) column x from to w (knows (Extend column x from to w) is)))
          ∙ sym (ap (list_of c s.first two) is)
      go (Close column x from to w) is h =
          ap (list_of c s.first one) is
          ∙ ap (neighbours c.graph (rel_table c.typed x) w) (same_row c run one two s m from (close_reads c.graph.catalog c.typed m.set column x from to w (sets (Close column x from to w) is)) (close_reads c.graph.catalog c.typed (known c s.first) column x from to w (knows (Close column x from to w) is)))
          ∙ sym (ap (list_of c s.first two) is)
      go (Join side keys) is h =
          let b : HasBuild c.graph c.typed side keys (slice_index_or c.builds s.first Rattle.std.specs.Prelude.None) = build c run s.first low one held side keys is in
          let values : values_of b.build.keys one.nodes ≡ values_of b.build.keys two.nodes =
          ap (λ ks. values_of ks one.nodes) b.is.key_list
          ∙ same_values (after side none).nodes m.set.nodes (known c s.first).nodes keys one.nodes two.nodes (join_reads c.graph.catalog c.typed m.set side keys (sets (Join side keys) is)) (join_reads c.graph.catalog c.typed (known c s.first) side keys (knows (Join side keys) is)) (λ v set bound. same_row c run one two s m v set bound)
          ∙ ap (λ ks. values_of ks two.nodes) (sym b.is.key_list) in
          ap (list_of c s.first one) is ∙ ap (λ o. matches_in o one) b.there ∙ ap (matches b.build) values
          ∙ sym (ap (list_of c s.first two) is ∙ ap (λ o. matches_in o two) b.there)
      go (Keep i) is h = absurd (true≢false (sym h ∙ ap makes_group is))
      go (Differ p) is h = absurd (true≢false (sym h ∙ ap makes_group is))
      go (NoLoop x) is h = absurd (true≢false (sym h ∙ ap makes_group is))
      go (Single x from to w) is h = absurd (true≢false (sym h ∙ ap makes_group is))
      go (Meet x from to w) is h = absurd (true≢false (sym h ∙ ap makes_group is))

-- the number at which a group stands can be seen from it
pub same_key : (flat : Bool) (old new : ℕ) → piece_of flat old ≡ piece_of flat new → (flat ≡ true → old % VECTOR ≡ new % VECTOR) → old ≡ new
same_key true old new piece rest = let same = rest refl in omega (arith, piece, same)
same_key false old new piece rest = piece

past_marks : (m : List Bool) (p : ℕ) → length m ≤ p → is_marked m p ≡ false
past_marks [] p low = refl
past_marks (b ∷ m) zero low = absurd (omega (arith, low))
past_marks (b ∷ m) (suc p) low = past_marks m p (omega (arith, low))

module _ (c : Run) (ss : List GroupSteps) (row : Assignment) (cs : List Cursor) (ms : List (List Bool)) (gs : List Group) (st : EarlierStand c ss row (keys_of cs)) (runs : Runs (layout_in c ss) [] cs ms) (many : length cs ≡ length ss) (w : StoodAt c ss gs)
    (i : ℕ) (low : i < length ss) (before : prefix w.cursors i ≡ prefix cs i) (key : (cursor_at w.cursors i).key ≡ (cursor_at cs i).key) where
  abbrev s : GroupSteps
  s = group_at ss i

  abbrev k : ℕ
  k = (cursor_at cs i).key

  long : length (prefix cs i) ≡ i
  long = length-keys cs i (omega (arith, low, many))

  found : s ≡ slice_index_or ss i s
  found = get_or_default ss i no_group s low

  old : EarlierStand c ss w.row (keys_of w.cursors)
  old = w.stands

  met : Met c w.row row s
  met = subst (λ n. Met c w.row row (group_at ss n)) long
      (both_stand c ss w.row row (prefix cs i) (omega (arith, low, long)) (subst (Rattle.gq_steps.specs.steps.Lists.Stands c ss w.row) before (stands_part c ss w.row w.cursors i low w.stands)) (stands_part c ss row cs i low st))

  lists : list_of c s.first w.row (step_at c s.first) ≡ list_of c s.first row (step_at c s.first)
  lists =
      let within : IsWithin c s = tile_at c 0 ss st.grouped.tiles i low in
      let some = within.some in
      let inside = within.inside in
      same_list c st.runs w.row row s met (omega (arith, some, inside)) (group_makes c ss row i low s found (prefix cs i) long (stands_part c ss row cs i low st))
      (group_held c ss w.row i low s found (prefix cs i) long (subst (Rattle.gq_steps.specs.steps.Lists.Stands c ss w.row) before (stands_part c ss w.row w.cursors i low w.stands)))

  -- the marks of its piece are the same
  was : IsMarkedAt (layout_in c ss) (prefix cs i) (piece_of s.flat k) (slice_index_or w.marks i [])
  was =
      subst (λ n. IsMarkedAt (layout_in c ss) (prefix cs i) (piece_of s.flat n) (slice_index_or w.marks i [])) key
      (subst (λ p. IsMarkedAt (layout_in c ss) p (piece_of s.flat (cursor_at w.cursors i).key) (slice_index_or w.marks i [])) before
      (subst (λ f. IsMarkedAt (layout_in c ss) (prefix w.cursors i) (piece_of f (cursor_at w.cursors i).key) (slice_index_or w.marks i [])) (flat_here c ss w.row w.cursors w.marks w.stands w.runs w.many i low)
      (group_here c ss w.row w.cursors w.marks w.stands w.runs w.many i low).marked))

  is : IsMarkedAt (layout_in c ss) (prefix cs i) (piece_of s.flat k) (slice_index_or ms i [])
  is = subst (λ f. IsMarkedAt (layout_in c ss) (prefix cs i) (piece_of f k) (slice_index_or ms i [])) (flat_here c ss row cs ms st runs many i low) (group_here c ss row cs ms st runs many i low).marked

  same_marks : (p : ℕ) → is_marked (slice_index_or w.marks i []) p ≡ is_marked (slice_index_or ms i []) p
  same_marks p = go (cases_lt p VECTOR)
    where
      go : (p < VECTOR) ⊎ (VECTOR ≤ p) → is_marked (slice_index_or w.marks i []) p ≡ is_marked (slice_index_or ms i []) p
      go (inl h) = was.each p h ∙ sym (is.each p h)
      go (inr h) =
          let was_long = was.len in
          let is_long = is.len in
          past_marks (slice_index_or w.marks i []) p (omega (arith, h, was_long)) ∙ sym (past_marks (slice_index_or ms i []) p (omega (arith, h, is_long)))

  -- so it stands where it stood
  pub stays : HasGroup c row s (cursor_at cs i) (slice_index_or ms i []) gs i
  stays =
      let h : HasGroup c w.row s (cursor_at w.cursors i) (slice_index_or w.marks i []) gs i = w.groups i low in
      let g : IsGroupAt c w.row s (cursor_at w.cursors i) (slice_index_or w.marks i []) h.group = h.is in
      record {
        group = h.group;
        there = h.there;
        is = record {
          piece = record {
            form = g.piece.form;
            first_is = g.piece.first_is ∙ ap (λ n. VECTOR * piece_of s.flat n) key;
            items_are = g.piece.items_are ∙ ap₂ part lists (ap (λ n. VECTOR * piece_of s.flat n) key);
          };
          marks = λ p. g.marks p ∙ ap (λ n. marked_at s.flat n (slice_index_or w.marks i []) p) key ∙ as_marked s.flat p;
          current = g.current ∙ ap (current_at s.flat) key;
          kept = g.kept;
        };
      }
    where
      as_marked : (f : Bool) (p : ℕ) → marked_at f k (slice_index_or w.marks i []) p ≡ marked_at f k (slice_index_or ms i []) p
      as_marked true p = refl
      as_marked false p = same_marks p

read_group : (gs : List Group) (n : ℕ) (g x : Group) → slice_get gs n ≡ Some g → x ≡ slice_index_or gs n x → x ≡ g
read_group [] n g x h e = (let p : Rattle.std.specs.Prelude.None ≡ Some g = h in cc)
read_group (y ∷ gs) zero g x h e = (let p : Some y ≡ Some g = h in let q : x ≡ y = e in cc)
read_group (y ∷ gs) (suc n) g x h e = read_group gs n g x h e

-- a group that shows the number of a cursor stands there
pub shown_key : (c : Run) (ss : List GroupSteps) (gs : List Group) (w : StoodAt c ss gs) (i : ℕ) → i < length ss → (x : Group) → x ≡ slice_index_or gs i x → (key : ℕ) → ShowsNumber x (group_at ss i).flat key → (cursor_at w.cursors i).key ≡ key
shown_key c ss gs w i low x is key shows =
    let h : HasGroup c w.row (group_at ss i) (cursor_at w.cursors i) (slice_index_or w.marks i []) gs i = w.groups i low in
    let s : ShowsNumber h.group (group_at ss i).flat key = subst (λ g. ShowsNumber g (group_at ss i).flat key) (read_group gs i h.group x h.there is) shows in
    let first = h.is.piece.first_is in
    let there = s.piece in
    same_key (group_at ss i).flat (cursor_at w.cursors i).key key (omega (arith, first, there))
    (λ f. (let e : Some ((cursor_at w.cursors i).key % VECTOR) ≡ Some (key % VECTOR) = ap (λ b. current_at b (cursor_at w.cursors i).key) (sym f) ∙ sym h.is.current ∙ s.current f in cc))

-- one group more stands where the groups are those that they were
pub standing_on : (c : Run) (ss : List GroupSteps) (row : Assignment) (cs : List Cursor) (ms : List (List Bool)) (gs : List Group) (n : ℕ) → AreStanding c ss row cs ms gs n → HasGroup c row (group_at ss n) (cursor_at cs n) (slice_index_or ms n []) gs n → AreStanding c ss row cs ms gs (n + 1)
standing_on c ss row cs ms gs n old here i below = go (cases_eq i n)
  where
    go : (i ≡ n) ⊎ (i ≡ n → ⊥) → HasGroup c row (group_at ss i) (cursor_at cs i) (slice_index_or ms i []) gs i
    go (inl e) = subst (λ k. HasGroup c row (group_at ss k) (cursor_at cs k) (slice_index_or ms k []) gs k) (sym e) here
    go (inr other) = old i (omega (arith, below, other))
