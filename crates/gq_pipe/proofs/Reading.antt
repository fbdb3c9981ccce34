-- What is read of a chunk at one selected position of each group is what the walk of these positions binds.
use Rattle.std.proofs.Common.{◌≡◌, ℕ, zero, suc, ◌+◌, ◌*◌, ◌/◌, ◌%◌, ◌^◌, ◌<◌, Bool, true, false, Some, List, [], ◌∷◌, length, drop, slice_get, sym, ap, ◌∙◌, subst, arith, true≢false}
use Rattle.std.specs.Prelude.{slice_index, slice_index_or}
use Rattle.std.proofs.lemmas.Bool.{and_parts, eqb-true}
use Rattle.std.proofs.lemmas.List.{get_or-take, get_or-drop}
use Rattle.gq_bits.specs.declared.TheConstants.{VECTOR}
use Rattle.gq_bits.specs.Places.{is_marked}
use Rattle.gq_group.specs.Chunks.{items_in, first_in, group_of}
use Rattle.gq_group.specs.Groups.{AreSelected, is_selected, is_current}
use Rattle.gq_group.specs.declared.chunk.Chunk.{Chunk}
use Rattle.gq_group.specs.declared.group.Group.{Group}
use Rattle.gq_plan.specs.declared.assignment.Assignment.{Assignment}
use Rattle.gq_search.specs.Layouts.{Layout, IsPlace, piece_of}
use Rattle.gq_search.specs.Running.{IsGroup, Runs, cursor_at, prefix}
use Rattle.gq_search.specs.declared.walker.Cursor.{Cursor}
use Rattle.gq_search.proofs.Runs.{flat-place, piece-place}
use Rattle.gq_pipe.specs.steps.Chunks.{AreStanding, HasGroup, IsGroupAt, marked_at}
use Rattle.gq_steps.specs.Pieces.{list_of}
use Rattle.gq_steps.specs.Levels.{Run, step_at}
use Rattle.gq_steps.specs.steps.Lists.{flat_in, layout_in}
use Rattle.gq_steps.specs.Groups.{group_at}
use Rattle.gq_steps.specs.declared.group_steps.GroupSteps.{GroupSteps}
use Rattle.gq_steps.proofs.Standings.{group_runs}

-- ---- the position of a group in its whole list

selected_here : (gs : List Group) (ps : List ℕ) (i : ℕ) (g : Group) → AreSelected gs ps → slice_get gs i ≡ Some g → is_selected g (slice_index ps i) ≡ true
selected_here [] ps i g h is = absurd (cc is)
selected_here (x ∷ gs) [] i g h is = absurd h
selected_here (x ∷ gs) (p ∷ ps) zero g h is = let same : x ≡ g = cc in subst (λ g. is_selected g p ≡ true) same h.0
selected_here (x ∷ gs) (p ∷ ps) (suc i) g h is = selected_here gs ps i g h.1 is

-- it is in the list, is kept, and has the number at which the group stands
place_here : (l : Layout) (pre : List ℕ) (flat : Bool) (c : Cursor) (m : List Bool) (p : ℕ) → l.flat pre ≡ flat → IsGroup l pre c m → marked_at flat c.key m p ≡ true
    → IsPlace l pre c.key (VECTOR * piece_of flat c.key + p)
place_here l pre true c m p f g on =
    let same : p ≡ c.key % VECTOR = eqb-true p (c.key % VECTOR) on in
    let at : VECTOR * (c.key / VECTOR) + p ≡ c.key = omega (arith, same) in
    subst (IsPlace l pre c.key) (sym at) (flat-place l pre c.key f g.key_in g.alive)
place_here l pre false c m p f g on =
    let at : c.key * VECTOR + p ≡ VECTOR * c.key + p = omega arith in
    subst (IsPlace l pre c.key) at (piece-place l pre c.key p m f g.marked on)

module _ (c : Run) (ss : List GroupSteps) (row : Assignment) (cs : List Cursor) (ms : List (List Bool)) (ch : Chunk) (ps : List ℕ) (runs : Runs (layout_in c ss) [] cs ms) (many : length cs ≡ length ss)
    (groups : AreStanding c ss row cs ms ch.groups.now (length ss)) (sel : AreSelected ch.groups.now ps) where
  abbrev pub place_at : ℕ → ℕ
  place_at i = VECTOR * piece_of (group_at ss i).flat (cursor_at cs i).key + slice_index ps i

  pub record IsHere (i : ℕ) : Type 0 where
    pub group : Group
    pub there : group_of ch i ≡ Some group
    pub is : IsGroupAt c row (group_at ss i) (cursor_at cs i) (slice_index_or ms i []) group
    pub place : IsPlace (layout_in c ss) (prefix cs i) (cursor_at cs i).key (place_at i)
    pub few : (layout_in c ss).size (prefix cs i) < 2 ^ 32
    pub marked : is_marked group.marks (slice_index ps i) ≡ true

  pub here : (i : ℕ) → i < length ss → IsHere i
  here i low =
      let h : HasGroup c row (group_at ss i) (cursor_at cs i) (slice_index_or ms i []) ch.groups.now i = groups i low in
      let g : Group = h.group in
      let inside : i < length cs = omega (arith, low, many) in
      let r : IsGroup (layout_in c ss) (prefix cs i) (cursor_at cs i) (slice_index_or ms i []) = group_runs (layout_in c ss) cs ms runs i inside in
      let on : is_marked g.marks (slice_index ps i) ≡ true = (and_parts (is_current g.current (slice_index ps i)) (is_marked g.marks (slice_index ps i)) (selected_here ch.groups.now ps i g sel h.there)).1 in
      let long : length (prefix cs i) ≡ i = Rattle.gq_search.proofs.Runs.length-keys cs i (omega (arith, inside)) in
      let flat : (layout_in c ss).flat (prefix cs i) ≡ (group_at ss i).flat = ap (flat_in ss) long in
      let few = r.few in
      let size = r.size_is in
      record {
        group = g;
        there = h.there;
        is = h.is;
        place = place_here (layout_in c ss) (prefix cs i) (group_at ss i).flat (cursor_at cs i) (slice_index_or ms i []) (slice_index ps i) flat r (sym (h.is.marks (slice_index ps i)) ∙ on);
        few = omega (arith, few, size);
        marked = on;
      }

  -- a position is in the piece
  pub position_small : (i : ℕ) → i < length ss → slice_index ps i < VECTOR
  position_small i low = small i low
    where
      short : (flat : Bool) (key : ℕ) (m : List Bool) (p : ℕ) → length m ≡ VECTOR → marked_at flat key m p ≡ true → p < VECTOR
      short true key m p long on = let same : p ≡ key % VECTOR = eqb-true p (key % VECTOR) on in omega (arith, same)
      short false key m p long on = let inside : p < length m = marked_inside m p on in omega (arith, inside, long)
        where
          marked_inside : (m : List Bool) (p : ℕ) → is_marked m p ≡ true → p < length m
          marked_inside [] p h = absurd (true≢false (sym h))
          marked_inside (b ∷ m) zero h = omega arith
          marked_inside (b ∷ m) (suc p) h = let low = marked_inside m p h in omega (arith, low)

      small : (i : ℕ) → i < length ss → slice_index ps i < VECTOR
      small i low =
          let h : HasGroup c row (group_at ss i) (cursor_at cs i) (slice_index_or ms i []) ch.groups.now i = groups i low in
          let g : Group = h.group in
          let inside : i < length cs = omega (arith, low, many) in
          let r : IsGroup (layout_in c ss) (prefix cs i) (cursor_at cs i) (slice_index_or ms i []) = group_runs (layout_in c ss) cs ms runs i inside in
          let on : is_marked g.marks (slice_index ps i) ≡ true = (and_parts (is_current g.current (slice_index ps i)) (is_marked g.marks (slice_index ps i)) (selected_here ch.groups.now ps i g sel h.there)).1 in
          short (group_at ss i).flat (cursor_at cs i).key (slice_index_or ms i []) (slice_index ps i) r.marked.len (sym (h.is.marks (slice_index ps i)) ∙ on)

  -- the item at it
  pub item_is : (i : ℕ) → i < length ss → slice_index (items_in (group_of ch i)) (slice_index ps i) ≡ slice_index (list_of c (group_at ss i).first row (step_at c (group_at ss i).first)) (place_at i)
  item_is i low =
      let h : IsHere i = here i low in
      let list : List ℕ = list_of c (group_at ss i).first row (step_at c (group_at ss i).first) in
      let first : ℕ = VECTOR * piece_of (group_at ss i).flat (cursor_at cs i).key in
      ap (λ o. slice_index (items_in o) (slice_index ps i)) h.there
      ∙ ap (λ l. slice_index l (slice_index ps i)) h.is.piece.items_are
      ∙ get_or-take VECTOR (drop first list) (slice_index ps i) 0 (position_small i low)
      ∙ get_or-drop first list (slice_index ps i) 0

  pub first_is : (i : ℕ) → i < length ss → first_in (group_of ch i) ≡ VECTOR * piece_of (group_at ss i).flat (cursor_at cs i).key
  first_is i low = let h : IsHere i = here i low in ap first_in h.there ∙ h.is.piece.first_is
