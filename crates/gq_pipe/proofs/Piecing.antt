-- The whole list of a group has as many items as its step has places, and a piece is a part of it.
use Rattle.std.proofs.Common.{◌≡◌, ◌≢◌, ◌⊎◌, inl, inr, set, ℕ, zero, suc, ◌+◌, ◌*◌, ◌^◌, ◌<◌, Bool, true, false, Some, List, [], ◌∷◌, length, slice_get, refl, sym, ap, ◌∙◌, subst, arith, true≢false}
use Rattle.std.specs.Int.{div_ceil}
use Rattle.std.specs.Prelude.{slice_index_or}
use Rattle.std.proofs.lemmas.Bool.{cases_eq}
use Rattle.std.proofs.lemmas.List.{get_or_default}
use Rattle.std.proofs.lemmas.List.FromFn.{length-range_with_len}
use Rattle.gq_bits.specs.declared.TheConstants.{VECTOR}
use Rattle.gq_law_groups.specs.Groups.{makes_group}
use Rattle.gq_plan.specs.Plans.{Step, Scan, Extend, Close, Join, Keep, Differ, NoLoop, Single, Meet}
use Rattle.gq_plan.specs.declared.assignment.Assignment.{Assignment}
use Rattle.gq_search.specs.Layouts.{numbers_in, piece_of}
use Rattle.gq_search.specs.Running.{IsGroup, Runs, cursor_at, keys_of, prefix}
use Rattle.gq_search.specs.declared.walker.Cursor.{Cursor}
use Rattle.gq_search.proofs.Runs.{length-keys}
use Rattle.gq_group.specs.declared.group.Group.{Group}
use Rattle.gq_pipe.specs.steps.Chunks.{AreStanding, CanStand, HasGroup, IsGroupAt}
use Rattle.gq_steps.specs.Pieces.{list_of, matches_in}
use Rattle.gq_steps.specs.Levels.{Run, step_at, built_at, known, before}
use Rattle.gq_steps.specs.steps.Lists.{flat_in, layout_in, Stands, EarlierStand}
use Rattle.gq_steps.specs.Groups.{no_group, group_at}
use Rattle.gq_steps.specs.Moves.{IsRun, IsHeld}
use Rattle.gq_steps.specs.Tries.{tries}
use Rattle.gq_steps.specs.declared.group_steps.GroupSteps.{GroupSteps}
use Rattle.gq_steps.proofs.Here.{group_held, group_makes, group_range, group_size}
use Rattle.gq_steps.proofs.Joined.{build, join_count}
use Rattle.gq_steps.proofs.Standings.{group_runs, stands_part, tile_at, IsWithin}
use Rattle.gq_steps.proofs.Trying.{scan_count, extend_count, close_count}

module _ (c : Run) (run : IsRun c) (d : ℕ) (low : d < length c.steps) (row : Assignment) (held : IsHeld c row (known c d)) where
  pub list_long : makes_group (step_at c d) ≡ true → length (tries c.graph c.typed (built_at c d) (step_at c d) (before c row d)) ≡ length (list_of c d row (step_at c d))
  list_long makes = go (step_at c d) refl makes
    where
      go : (s : Step) → step_at c d ≡ s → makes_group (step_at c d) ≡ true → length (tries c.graph c.typed (built_at c d) (step_at c d) (before c row d)) ≡ length (list_of c d row (step_at c d))
      go (Scan v) is h = scan_count c run d low row held v is ∙ sym (ap (λ s. length (list_of c d row s)) is ∙ length-range_with_len 0 _)
      go (Extend true x from to way) is h = absurd (true≢false (sym h ∙ ap makes_group is))
      go (Extend false x from to way) is h = extend_count c run d low row held false x from to way is ∙ sym (ap (λ s. length (list_of c d row s)) is)
      go (Close true x from to way) is h = absurd (true≢false (sym h ∙ ap makes_group is))
      go (Close false x from to way) is h = close_count c run d low row held false x from to way is ∙ sym (ap (λ s. length (list_of c d row s)) is)
      go (Join side keys) is h =
          join_count c run d low row held side keys is
          ∙ sym (ap (λ s. length (list_of c d row s)) is ∙ ap (λ o. length (matches_in o row)) (build c run d low row held side keys is).there)
      go (Keep i) is h = absurd (true≢false (sym h ∙ ap makes_group is))
      go (Differ p) is h = absurd (true≢false (sym h ∙ ap makes_group is))
      go (NoLoop x) is h = absurd (true≢false (sym h ∙ ap makes_group is))
      go (Single x from to way) is h = absurd (true≢false (sym h ∙ ap makes_group is))
      go (Meet x from to way) is h = absurd (true≢false (sym h ∙ ap makes_group is))

-- where a walker stands, each group has a piece at the number of its cursor
module _ (c : Run) (ss : List GroupSteps) (row : Assignment) (cs : List Cursor) (ms : List (List Bool)) (st : EarlierStand c ss row (keys_of cs)) (runs : Runs (layout_in c ss) [] cs ms) (many : length cs ≡ length ss) (i : ℕ) (low : i < length ss) where
  abbrev s : GroupSteps
  s = group_at ss i

  abbrev pre : List ℕ
  pre = prefix cs i

  at : Stands c ss row pre
  at = stands_part c ss row cs i low st

  long : length pre ≡ i
  long = length-keys cs i (omega (arith, low, many))

  found : s ≡ slice_index_or ss i s
  found = get_or_default ss i no_group s low

  pub group_here : IsGroup (layout_in c ss) pre (cursor_at cs i) (slice_index_or ms i [])
  group_here = group_runs (layout_in c ss) cs ms runs i (omega (arith, low, many))

  pub list_size : length (list_of c s.first row (step_at c s.first)) ≡ (layout_in c ss).size pre
  list_size =
      let w : IsWithin c s = tile_at c 0 ss st.grouped.tiles i low in
      let some = w.some in
      let inside = w.inside in
      sym (group_size c ss row i low s found pre long at
      ∙ list_long c st.runs s.first (omega (arith, some, inside)) row (group_held c ss row i low s found pre long at) (group_makes c ss row i low s found pre long at))

  pub flat_here : (layout_in c ss).flat pre ≡ s.flat
  flat_here = ap (flat_in ss) long

  -- the piece begins within the list
  pub piece_inside : VECTOR * piece_of s.flat (cursor_at cs i).key < (layout_in c ss).size pre
  piece_inside = go s.flat flat_here
    where
      go : (f : Bool) → (layout_in c ss).flat pre ≡ f → VECTOR * piece_of f (cursor_at cs i).key < (layout_in c ss).size pre
      go true e =
          let k : (cursor_at cs i).key < (layout_in c ss).size pre = subst (λ b. (cursor_at cs i).key < numbers_in b ((layout_in c ss).size pre)) e group_here.key_in in
          omega (arith, k)
      go false e =
          let k : (cursor_at cs i).key < div_ceil ((layout_in c ss).size pre) VECTOR = subst (λ b. (cursor_at cs i).key < numbers_in b ((layout_in c ss).size pre)) e group_here.key_in in
          omega (arith, k)

  pub list_few : length (list_of c s.first row (step_at c s.first)) < 2 ^ 32
  list_few = let few = group_here.few in let is = group_here.size_is in omega (arith, few, is, list_size)

  pub can_stand : CanStand c row s (cursor_at cs i)
  can_stand =
      let w : IsWithin c s = tile_at c 0 ss st.grouped.tiles i low in
      let some = w.some in
      let inside = w.inside in
      record {
        run = st.runs;
        low = omega (arith, some, inside);
        action = (group_range c ss row i low s found pre long at).action;
        makes = group_makes c ss row i low s found pre long at;
        held = group_held c ss row i low s found pre long at;
        inside = omega (arith, piece_inside, list_size);
        few = list_few;
      }

-- ---- one group more stands

get_other : (gs : List Group) (n i : ℕ) (g : Group) → i ≢ n → slice_get (set gs n g) i ≡ slice_get gs i
get_other [] n i g other = refl
get_other (x ∷ gs) zero zero g other = absurd (other refl)
get_other (x ∷ gs) zero (suc i) g other = refl
get_other (x ∷ gs) (suc n) zero g other = refl
get_other (x ∷ gs) (suc n) (suc i) g other = get_other gs n i g (λ e. other (ap suc e))

get_set : (gs : List Group) (n : ℕ) (g : Group) → n < length gs → slice_get (set gs n g) n ≡ Some g
get_set [] n g low = absurd (omega (arith, low))
get_set (x ∷ gs) zero g low = refl
get_set (x ∷ gs) (suc n) g low = get_set gs n g (omega (arith, low))

module _ (c : Run) (ss : List GroupSteps) (row : Assignment) (cs : List Cursor) (ms : List (List Bool)) where
  pub standing_more : (gs : List Group) (n : ℕ) (g : Group) → n < length gs → AreStanding c ss row cs ms gs n → IsGroupAt c row (group_at ss n) (cursor_at cs n) (slice_index_or ms n []) g → AreStanding c ss row cs ms (set gs n g) (n + 1)
  standing_more gs n g low old is i below = go (cases_eq i n)
    where
      go : (i ≡ n) ⊎ (i ≡ n → ⊥) → HasGroup c row (group_at ss i) (cursor_at cs i) (slice_index_or ms i []) (set gs n g) i
      go (inl e) = subst (λ k. HasGroup c row (group_at ss k) (cursor_at cs k) (slice_index_or ms k []) (set gs n g) k) (sym e) (record { group = g; there = get_set gs n g low; is = is })
      go (inr other) =
          let h : HasGroup c row (group_at ss i) (cursor_at cs i) (slice_index_or ms i []) gs i = old i (omega (arith, below, other)) in
          record { group = h.group; there = get_other gs n i g other ∙ h.there; is = h.is }
