-- The pieces of the chunk that stands are parts of the lists that they have in each of its rows.
use Rattle.std.proofs.Common.{◌≡◌, ◌∙◌, ℕ, ◌<◌, Bool, true, Option, Some, None, List, [], ◌∷◌, map, length, take, drop, refl, sym, ap₂, subst, arith}
use Rattle.std.specs.Prelude.{slice_index_or}
use Rattle.std.specs.List.{AllByRecursion, AllZip}
use Rattle.std.proofs.lemmas.List.{get_or_default}
use Rattle.gq_bits.specs.declared.TheConstants.{VECTOR}
use Rattle.gq_group.specs.Chunks.{assignment_at, chunk_meaning}
use Rattle.gq_group.specs.Groups as group
use Rattle.gq_group.specs.Groups.{AreSelected}
use Rattle.gq_group.specs.Pieces.{first_of, items_of}
use Rattle.gq_group.specs.declared.chunk.Chunk.{Chunk}
use Rattle.gq_join.specs.Kept.{Held}
use Rattle.gq_law_groups.specs.Groups.{makes_group}
use Rattle.gq_plan.specs.Plans.{Step, Scan, Extend, Close, Join, Keep, Differ, NoLoop, Single, Meet}
use Rattle.gq_plan.specs.declared.assignment.Assignment.{Assignment}
use Rattle.gq_plan.specs.declared.plan.Step as code
use Rattle.gq_search.specs.Layouts.{piece_of}
use Rattle.gq_search.specs.Running.{Runs, cursor_at, keys_of, prefix}
use Rattle.gq_search.specs.declared.walker.Cursor.{Cursor}
use Rattle.gq_search.proofs.Runs.{length-keys}
use Rattle.gq_pipe.specs.Shown.{IsPieceIn, whole_list}
use Rattle.gq_pipe.specs.steps.Chunks.{AreStanding, HasGroup}
use Rattle.gq_steps.specs.Pieces.{list_of, matches_in, part}
use Rattle.gq_homes.specs.Homes.{AreHomes}
use Rattle.gq_steps.specs.Levels.{Run, step_at}
use Rattle.gq_steps.specs.Groups.{no_group, group_at}
use Rattle.gq_steps.specs.steps.Lists.{layout_in, EarlierStand, Stands}
use Rattle.gq_pipe.specs.steps.Search.{maker_in}
use Rattle.gq_homes.specs.declared.homes.Filling.{Filling}
use Rattle.gq_steps.specs.declared.group_steps.GroupSteps.{GroupSteps}
use Rattle.gq_pipe.proofs.Chosen.{all_stand}
use Rattle.gq_pipe.proofs.Filling.{AreCells}
use Rattle.gq_steps.proofs.Here.{group_held, group_makes}
use Rattle.gq_pipe.proofs.Products.{all_selected}
use Rattle.gq_pipe.proofs.Showing.{HasItem, IsMadeBy, zip_at, zip_mapped}
use Rattle.gq_steps.proofs.Standings.{IsWithin, Met, both_stand, stands_part, tile_at}
use Rattle.gq_pipe.proofs.Staying.{same_list}

whole_is : (c : Run) (d : ℕ) (row : Assignment) (s : Step) → list_of c d row s ≡ whole_list c.graph c.typed s (slice_index_or c.builds d None) row
whole_is c d row (Scan v) = refl
whole_is c d row (Extend column x from to way) = refl
whole_is c d row (Close column x from to way) = refl
whole_is c d row (Join side keys) = go (slice_index_or c.builds d None)
  where
    go : (o : Option Held) → matches_in o row ≡ whole_list c.graph c.typed (Join side keys) o row
    go None = refl
    go (Some h) = refl
whole_is c d row (Keep i) = refl
whole_is c d row (Differ p) = refl
whole_is c d row (NoLoop x) = refl
whole_is c d row (Single x from to way) = refl
whole_is c d row (Meet x from to way) = refl

mapped_each : {X Y : Type 0} (P : X → Type 0) (Q : Y → Type 0) (f : X → Y) → ((x : X) → P x → Q (f x)) → (xs : List X) → AllByRecursion P xs → AllByRecursion Q (map f xs)
mapped_each P Q f h [] all = tt
mapped_each P Q f h (x ∷ xs) all = (h x all.0, mapped_each P Q f h xs all.1)

module _ (c : Run) (ss : List GroupSteps) (row : Assignment) (cs : List Cursor) (ms : List (List Bool)) (ch : Chunk) (st : EarlierStand c ss row (keys_of cs)) (runs : Runs (layout_in c ss) [] cs ms) (many : length cs ≡ length ss)
    (count : length ch.groups.now ≡ length ss) (groups : AreStanding c ss row cs ms ch.groups.now (length ss))
    (fs : List Filling) (homes : AreHomes c ss (length ss) (length c.steps) fs ch.homes.now) (cols : AreCells c row fs ch) where
  module _ (i : ℕ) (low : i < length ss) where
    abbrev t : GroupSteps
    t = group_at ss i

    abbrev pre : List ℕ
    pre = prefix cs i

    here : Stands c ss row pre
    here = stands_part c ss row cs i low st

    found : t ≡ slice_index_or ss i t
    found = get_or_default ss i no_group t low

    long : length pre ≡ i
    long = length-keys cs i (omega (arith, low, many))

    within : IsWithin c t
    within = tile_at c 0 ss here.grouped.tiles i low

    makes : makes_group (step_at c t.first) ≡ true
    makes = group_makes c ss row i low t found pre long here

    -- the list of a group is the same in each row of the chunk
    list_read : (ps : List ℕ) → AreSelected ch.groups.now ps
        → list_of c t.first row (step_at c t.first) ≡ whole_list c.graph c.typed (step_at c t.first) (slice_index_or c.builds t.first None) (assignment_at c.graph c.typed ch ps)
    list_read ps sel =
        let read : Assignment = assignment_at c.graph c.typed ch ps in
        let met : Met c row read t =
        subst (λ n. Met c row read (group_at ss n)) long
        (both_stand c ss row read pre (omega (arith, low, long)) here (all_stand c ss row cs ms ch ps runs many groups sel st fs homes cols i (omega (arith, low)))) in
        same_list c st.runs row read t met (let some = within.some in let inside = within.inside in omega (arith, some, inside)) makes (group_held c ss row i low t found pre long here)
        ∙ whole_is c t.first read (step_at c t.first)

    made_by : HasItem (λ x. IsMadeBy c x t) ch.groups.now i
    made_by =
        let h : HasGroup c row t (cursor_at cs i) (slice_index_or ms i []) ch.groups.now i = groups i low in
        record { item = h.group; there = h.there; is = record { form = h.is.piece.form; makes = makes; key = (cursor_at cs i).key; current = h.is.current } }

    piece_in : (ks : List code.Step) (os : List (Option Held)) → HasItem (λ x. IsPieceIn (record { graph = c.graph; typed = c.typed; steps = ks; builds = os }) (chunk_meaning c.graph c.typed ch) x (maker_in c t)) ch.groups.now i
    piece_in ks os =
        let h : HasGroup c row t (cursor_at cs i) (slice_index_or ms i []) ch.groups.now i = groups i low in
        let p = h.is.piece in
        record {
          item = h.group;
          there = h.there;
          is = record {
            number = piece_of t.flat (cursor_at cs i).key;
            begins = p.first_is;
            items = mapped_each (AreSelected ch.groups.now)
                (λ row. items_of h.group.piece ≡ take VECTOR (drop (first_of h.group.piece) (whole_list c.graph c.typed (step_at c t.first) (slice_index_or c.builds t.first None) row)))
                (assignment_at c.graph c.typed ch) (λ ps sel. p.items_are ∙ ap₂ part (list_read ps sel) (sym p.first_is)) (group.choices ch.groups.now) (all_selected ch.groups.now);
          };
        }

  -- the groups are those that the steps make
  pub all_made : AllZip (IsMadeBy c) ch.groups.now ss
  all_made = zip_at (IsMadeBy c) no_group ch.groups.now ss count made_by

  -- each piece is a part of its list
  pub all_pieces : (ks : List code.Step) (os : List (Option Held))
      → AllZip (IsPieceIn (record { graph = c.graph; typed = c.typed; steps = ks; builds = os }) (chunk_meaning c.graph c.typed ch)) ch.groups.now (map (maker_in c) ss)
  all_pieces ks os =
      zip_mapped (IsPieceIn (record { graph = c.graph; typed = c.typed; steps = ks; builds = os }) (chunk_meaning c.graph c.typed ch)) (maker_in c) ch.groups.now ss
      (zip_at (λ x s. IsPieceIn (record { graph = c.graph; typed = c.typed; steps = ks; builds = os }) (chunk_meaning c.graph c.typed ch) x (maker_in c s)) no_group ch.groups.now ss count (λ i low. piece_in i low ks os))
