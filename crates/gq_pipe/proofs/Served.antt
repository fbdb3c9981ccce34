-- What the columns of a chunk that stands are filled from.
use Rattle.std.proofs.Common.{◌≡◌, ℕ, ◌*◌, ◌<◌, Some, List, [], ◌∷◌, ap, arith, length, slice_get, refl, sym, subst}
use Rattle.std.specs.Prelude.{slice_index_or}
use Rattle.std.specs.List.{AllByRecursion}
use Rattle.std.proofs.lemmas.List.{get_or_default}
use Rattle.gq_bits.specs.declared.TheConstants.{VECTOR}
use Rattle.gq_group.specs.Chunks.{items_in}
use Rattle.gq_group.specs.Pieces.{items_of}
use Rattle.gq_group.specs.declared.home.NodeHome.TheVariants.{Column}
use Rattle.gq_search.specs.Layouts.{piece_of}
use Rattle.gq_search.specs.Running.{cursor_at, keys_of, prefix}
use Rattle.gq_search.specs.declared.walker.State.TheVariants.{Standing}
use Rattle.gq_steps.specs.Built.{HasBuild}
use Rattle.gq_pipe.specs.steps.Cells.{CanKeep, HasMatches, item_in}
use Rattle.gq_homes.specs.Homes.{IsColumnOf, IsFilling, filling_at, node_home}
use Rattle.gq_homes.specs.steps.Housing.{build_in}
use Rattle.gq_pipe.specs.steps.Chunks.{HasGroup}
use Rattle.gq_steps.specs.Pieces.{IsPieceOf}
use Rattle.gq_steps.specs.Levels.{Run, known}
use Rattle.gq_steps.specs.steps.Lists.{Chain, EarlierStand}
use Rattle.gq_steps.specs.declared.group_steps.GroupSteps.{GroupSteps}
use Rattle.gq_steps.specs.Groups.{no_group, group_at}
use Rattle.gq_pipe.specs.steps.Matches.{lists_in, StandNow}
use Rattle.gq_steps.specs.Moves.{run_of, IsRun}
use Rattle.gq_pipe.specs.steps.Search.{IsSearch}
use Rattle.gq_homes.specs.declared.homes.Filling.{Filling}
use Rattle.gq_homes.specs.declared.homes.Filling.TheVariants.{Led, Kept}
use Rattle.gq_pipe.specs.declared.pipeline.Pipeline.TheInside.{Inside}
use Rattle.gq_steps.proofs.Here.{group_held}
use Rattle.gq_pipe.proofs.Matched.{build_of, keeps_node, piece_rows, row_kept}
use Rattle.gq_pipe.proofs.Resting.{stands_now}
use Rattle.gq_steps.proofs.Standings.{stands_part}

module _ (p : Inside) (inv : IsSearch p) (now : p.walker.state ≡ Standing) where
  abbrev c : Run
  c = run_of p.lists.plan_run

  st : EarlierStand c p.lists.groups.items p.lists.row (keys_of p.walker.cursors.items)
  st = (stands_now p.walker.state p.walker.cursors.items (StandNow c p.lists.groups.items p.lists.row (lists_in p.lists.matches.items)) now inv.stands).stand

  pub run_there : IsRun c
  run_there = st.runs

  pub row_there : length p.lists.row.nodes ≡ length c.typed.nodes
  unfolding Chain
  row_there = go p.lists.groups.items refl st
    where
      go : (ss : List GroupSteps) → p.lists.groups.items ≡ ss → EarlierStand c ss p.lists.row (keys_of p.walker.cursors.items) → length p.lists.row.nodes ≡ length c.typed.nodes
      go [] is early = early.chain.held.node_count
      go (s ∷ ss) is early =
          let some : 0 < length p.lists.groups.items = omega (arith, ap length is) in
          (group_held c p.lists.groups.items p.lists.row 0 some (group_at p.lists.groups.items 0) (get_or_default p.lists.groups.items 0 no_group (group_at p.lists.groups.items 0) some) (prefix p.walker.cursors.items 0) refl (stands_part c p.lists.groups.items p.lists.row p.walker.cursors.items 0 some st)).node_count

  pub fillings_there : (m : ℕ) → m < length p.housing.fillings.items → IsFilling c p.lists.groups.items (known c (length c.steps)) p.housing.homes m (filling_at p.housing.fillings.items m)
  fillings_there m low = inv.chunk.homes.fillings m low

  -- where the piece of a group begins
  abbrev first_of : ℕ → ℕ
  first_of i = VECTOR * piece_of (group_at p.lists.groups.items i).flat (cursor_at p.walker.cursors.items i).key

  -- the rows of a group that a join makes are rows of its build
  matches_of_filling : (m : ℕ) (f : Filling) → IsFilling c p.lists.groups.items (known c (length c.steps)) p.housing.homes m f → HasMatches c p.groups.items f
  matches_of_filling m (Led f) is = tt
  matches_of_filling m (Kept f) is = λ position.
      (let stands : HasGroup c p.lists.row (group_at p.lists.groups.items f.group) (cursor_at p.walker.cursors.items f.group) (slice_index_or p.walker.marks.items f.group []) p.groups.items f.group = inv.chunk.standing now f.group is.group in
      let build : HasBuild c.graph c.typed is.side is.keys (build_in c f.depth) = build_of c st.runs f.depth is.low is.side is.keys is.step in
      let rows : AllByRecursion (λ r. r < length build.build.rows) (items_of stands.group.piece) = piece_rows c f.depth p.lists.row is.side is.keys is.step build.build build.there stands.group.piece (first_of f.group) (subst (λ d. IsPieceOf c d p.lists.row (first_of f.group) stands.group.piece) (sym is.depth) stands.is.piece) in
      subst (λ o. CanKeep o (item_in p.groups.items f.group position) f.node) (sym build.there)
      (subst (λ o. CanKeep (Some build.build) (slice_get (items_in o) position) f.node) (sym stands.there)
      (row_kept build.build f.node (items_of stands.group.piece) position rows (keeps_node c st.runs f.depth is.low is.side is.keys is.step build.build build.is f.node is.bound))))

  pub matches_there : (m : ℕ) → m < length p.housing.fillings.items → HasMatches c p.groups.items (filling_at p.housing.fillings.items m)
  matches_there m low = matches_of_filling m (filling_at p.housing.fillings.items m) (fillings_there m low)

  pub columns_there : (v j m : ℕ) → node_home p.housing.homes v ≡ Column j m → IsColumnOf p.housing.fillings.items j m
  columns_there = inv.chunk.homes.columns
