-- The chunk of a pipeline that stands.
use Rattle.std.proofs.Common.{◌≡◌, ℕ, ◌≤◌, true, false, List, [], ◌∷◌, map, filter, length, refl, sym, ap, ap₂, ◌∙◌, subst, true≢false}
use Rattle.std.specs.List.{AllZip}
use Rattle.std.proofs.lemmas.List.FromFn.{length-map-range_with_len}
use Rattle.gq_group.specs.Chunks.{IsChunkOf, assignment_at, chunk_meaning}
use Rattle.gq_group.specs.Groups as group
use Rattle.gq_group.specs.declared.chunk.Chunk.{Chunk}
use Rattle.gq_group.specs.declared.group.Group.{Group}
use Rattle.gq_group.specs.declared.home.Homes.{Homes}
use Rattle.gq_plan.specs.Columns.{steps_of}
use Rattle.gq_plan.specs.Covers.{after}
use Rattle.gq_plan.specs.Known.{none}
use Rattle.gq_plan.specs.Meaning.{nothing, whole}
use Rattle.gq_plan.specs.Plans.{steps}
use Rattle.gq_plan.specs.Rows.{assigned}
use Rattle.gq_plan.specs.declared.assignment.Assignment.{Assignment}
use Rattle.gq_search.specs.Running.{Runs, chunk_of, keys_of}
use Rattle.gq_search.specs.declared.walker.State.{State}
use Rattle.gq_search.specs.declared.walker.State.TheVariants.{Fresh, Standing, Done}
use Rattle.gq_pipe.specs.Bound.{binds_all}
use Rattle.gq_law_groups.specs.Groups.{makes_group}
use Rattle.gq_pipe.specs.Keys.{Maker, makers_in}
use Rattle.gq_steps.specs.Given.{given}
use Rattle.gq_pipe.specs.Progress.{plan_in}
use Rattle.gq_pipe.specs.steps.Chunks.{AreStanding}
use Rattle.gq_homes.specs.Homes.{AreHomes}
use Rattle.gq_pipe.specs.steps.Given.{bound_by, given_plan}
use Rattle.gq_steps.specs.Levels.{Run, step_at}
use Rattle.gq_steps.specs.steps.Lists.{layout_in, EarlierStand}
use Rattle.gq_pipe.specs.steps.Matches.{lists_in, StandNow}
use Rattle.gq_steps.specs.Moves.{run_of}
use Rattle.gq_pipe.specs.steps.Search.{has_chunk, layout_of_lists, machine_of, maker_in, rest_of, walked, IsSearch}
use Rattle.gq_steps.specs.declared.group_steps.GroupSteps.{GroupSteps}
use Rattle.gq_pipe.specs.declared.pipeline.Pipeline.TheInside.{Inside}
use Rattle.gq_pipe.proofs.Assigned.{whole_assigned}
use Rattle.gq_steps.proofs.Binding.{looks_given}
use Rattle.gq_pipe.proofs.Chunking.{is_chunk_of, chunk_binds}
use Rattle.gq_pipe.proofs.Rebinding.{bound_given}
use Rattle.gq_steps.proofs.Joined.{IsLow, low_none, low_runs}
use Rattle.gq_pipe.specs.Serving.{HasCells, Serves}
use Rattle.gq_pool.specs.Slots.{Holds}
use Rattle.gq_pipe.specs.Shown.{HasShape, IsPieceIn}
use Rattle.gq_pipe.specs.steps.Cells.{filled}
use Rattle.gq_pipe.proofs.Filling.{AreCells, served_cells}
use Rattle.gq_pipe.proofs.Resting.{stands_now}
use Rattle.gq_pipe.proofs.Makers.{made_steps}
use Rattle.gq_pipe.proofs.Shaping.{all_made, all_pieces}
use Rattle.gq_pipe.proofs.Showing.{IsMadeBy, has_shape}

is_standing : (s : State) → has_chunk s ≡ true → s ≡ Standing
is_standing Fresh h = absurd (true≢false (sym h))
is_standing Standing h = refl
is_standing Done h = absurd (true≢false (sym h))

same_map : {X Y : Type 0} (f h : X → Y) → ((x : X) → f x ≡ h x) → (xs : List X) → map f xs ≡ map h xs
same_map f h e [] = refl
same_map f h e (x ∷ xs) = ap₂ ◌∷◌ (e x) (same_map f h e xs)

map_map : {X Y Z : Type 0} (f : Y → Z) (h : X → Y) (xs : List X) → map f (map h xs) ≡ map (λ x. f (h x)) xs
map_map f h [] = refl
map_map f h (x ∷ xs) = ap (λ l. f (h x) ∷ l) (map_map f h xs)

module _ (p : Inside) (inv : IsSearch p) (now : (rest_of p).standing ≡ true) (ch : Chunk) (gs : ch.groups.now ≡ p.groups.items) (hs : ch.homes.now ≡ p.housing.homes)
    (slots : ch.slots.now ≡ p.slots.numbers) (serves : Serves (rest_of p) ch.pool.now) where
  abbrev c : Run
  c = run_of p.lists.plan_run

  abbrev ss : List GroupSteps
  ss = p.lists.groups.items

  state_is : p.walker.state ≡ Standing
  state_is = is_standing p.walker.state now

  st : EarlierStand c ss p.lists.row (keys_of p.walker.cursors.items)
  st = (stands_now p.walker.state p.walker.cursors.items (StandNow c ss p.lists.row (lists_in p.lists.matches.items)) state_is inv.stands).stand

  runs : Runs (layout_in c ss) Rattle.std.proofs.Common.[] p.walker.cursors.items p.walker.marks.items
  runs = inv.sound.standing state_is

  count : length ch.groups.now ≡ length ss
  count = ap length gs ∙ inv.chunk.count

  groups : AreStanding c ss p.lists.row p.walker.cursors.items p.walker.marks.items ch.groups.now (length ss)
  groups = subst (λ (l : List Group). AreStanding c ss p.lists.row p.walker.cursors.items p.walker.marks.items l (length ss)) (sym gs) (inv.chunk.standing state_is)

  homes : AreHomes c ss (length ss) (length c.steps) p.housing.fillings.items ch.homes.now
  homes = subst (λ (o : Homes). AreHomes c ss (length ss) (length c.steps) p.housing.fillings.items o) (sym hs) inv.chunk.homes

  cols : AreCells c p.lists.row p.housing.fillings.items ch
  cols = record {
    room = subst (λ (l : List ℕ). length p.housing.fillings.items ≤ length l) (sym slots) inv.room;
    held = subst (Holds ch.pool.now) (sym slots) serves.held;
    cells = subst (λ (l : List ℕ). HasCells ch.pool.now l (filled c p.lists.row ch.groups.now ch.homes.now p.housing.fillings.items (length p.housing.fillings.items))) (sym slots)
        (subst (λ (l : List Group). HasCells ch.pool.now p.slots.numbers (filled c p.lists.row l ch.homes.now p.housing.fillings.items (length p.housing.fillings.items))) (sym gs)
        (subst (λ (o : Homes). HasCells ch.pool.now p.slots.numbers (filled c p.lists.row p.groups.items o p.housing.fillings.items (length p.housing.fillings.items))) (sym hs)
        (served_cells p ch.pool.now state_is serves)));
  }

  pub chunk_is : IsChunkOf (rest_of p).source.graph (rest_of p).source.typed ch
  chunk_is = is_chunk_of c ss p.lists.row p.walker.cursors.items p.walker.marks.items ch st runs inv.sound.groups inv.sound.marks count groups p.housing.fillings.items homes cols inv.chunk.few

  -- ---- as the plan binds it

  low : IsLow c.typed (after (steps c.steps) none)
  low = low_runs c.graph.catalog c.typed (steps c.steps) none st.runs.fits (low_none c.typed)

  one_bound : (row : Assignment) → bound_by c.typed (given_plan p.lists.plan_run) (given c.typed row (steps c.steps) nothing) ≡ given c.typed row (given_plan p.lists.plan_run) nothing
  one_bound row = bound_given c.typed (given_plan p.lists.plan_run) (steps c.steps) row inv.plan.bound low.nodes low.rels

  pub binds_is : map (λ row. given (rest_of p).source.typed row (plan_in (rest_of p).source) nothing) (chunk_meaning (rest_of p).source.graph (rest_of p).source.typed ch) ≡ (rest_of p).chunk
  binds_is =
      sym (same_map (λ row. bound_by c.typed (given_plan p.lists.plan_run) (given c.typed row (steps c.steps) nothing)) (λ row. given c.typed row (given_plan p.lists.plan_run) nothing) one_bound (chunk_meaning c.graph c.typed ch))
      ∙ sym (map_map (bound_by c.typed (given_plan p.lists.plan_run)) (λ row. given c.typed row (steps c.steps) nothing) (chunk_meaning c.graph c.typed ch))
      ∙ ap (map (bound_by c.typed (given_plan p.lists.plan_run)))
      (chunk_binds c ss p.lists.row p.walker.cursors.items p.walker.marks.items ch st runs inv.sound.groups inv.sound.marks count groups p.housing.fillings.items homes cols)
      ∙ map_map (bound_by c.typed (given_plan p.lists.plan_run)) (walked p.lists) (chunk_of (layout_of_lists p.lists) (machine_of p.walker))

  pub whole_is : binds_all (rest_of p).source.typed (plan_in (rest_of p).source) ≡ true
      → map (assigned (rest_of p).source.typed) (chunk_meaning (rest_of p).source.graph (rest_of p).source.typed ch) ≡ map (whole (rest_of p).source.typed) (rest_of p).chunk
  whole_is all =
      map_map (assigned c.typed) (assignment_at c.graph c.typed ch) (group.choices ch.groups.now)
      ∙ same_map (λ ps. assigned c.typed (assignment_at c.graph c.typed ch ps)) (λ ps. whole c.typed (given c.typed (assignment_at c.graph c.typed ch ps) (given_plan p.lists.plan_run) nothing)) one (group.choices ch.groups.now)
      ∙ sym (map_map (λ row. whole c.typed (given c.typed row (given_plan p.lists.plan_run) nothing)) (assignment_at c.graph c.typed ch) (group.choices ch.groups.now))
      ∙ sym (map_map (whole c.typed) (λ row. given c.typed row (given_plan p.lists.plan_run) nothing) (chunk_meaning c.graph c.typed ch))
      ∙ ap (map (whole c.typed)) binds_is
    where
      one : (ps : List ℕ) → assigned c.typed (assignment_at c.graph c.typed ch ps) ≡ whole c.typed (given c.typed (assignment_at c.graph c.typed ch ps) (given_plan p.lists.plan_run) nothing)
      one ps =
          whole_assigned c.typed (assignment_at c.graph c.typed ch ps) (after (given_plan p.lists.plan_run) none) (given c.typed (assignment_at c.graph c.typed ch ps) (given_plan p.lists.plan_run) nothing)
          (looks_given c.typed (assignment_at c.graph c.typed ch ps) (given_plan p.lists.plan_run) none nothing (record { nodes = λ v. refl; rels = λ x. refl }))
          (length-map-range_with_len (Rattle.gq_group.specs.Chunks.node_at ch ps) 0 (length c.typed.nodes)) (length-map-range_with_len (Rattle.gq_group.specs.Chunks.rel_at c.graph c.typed ch ps) 0 (length c.typed.rels)) all

  made : AllZip (IsMadeBy c) ch.groups.now ss
  made = all_made c ss p.lists.row p.walker.cursors.items p.walker.marks.items ch st runs inv.sound.groups count groups p.housing.fillings.items homes cols

  -- the steps of the plan that make groups are those of the groups that run
  own_steps : filter makes_group (steps_of (given_plan p.lists.plan_run)) ≡ map (λ (t : GroupSteps). step_at c t.first) ss
  own_steps =
      sym (made_steps (steps_of (given_plan p.lists.plan_run)) p.lent.now inv.given.many) ∙ ap (map (λ (m : Maker). m.step)) inv.given.makers
      ∙ map_map (λ (m : Maker). m.step) (maker_in c) ss

  pub shape_is : HasShape (rest_of p).source.typed (plan_in (rest_of p).source) ch.groups.now
  shape_is = has_shape c c.typed (given_plan p.lists.plan_run) ch.groups.now ss made own_steps inv.given.flats

  pub pieces_are : AllZip (IsPieceIn (rest_of p).source (chunk_meaning (rest_of p).source.graph (rest_of p).source.typed ch)) ch.groups.now (makers_in (rest_of p).source)
  pieces_are =
      subst (AllZip (IsPieceIn (rest_of p).source (chunk_meaning c.graph c.typed ch)) ch.groups.now) (sym inv.given.makers)
      (all_pieces c ss p.lists.row p.walker.cursors.items p.walker.marks.items ch st runs inv.sound.groups count groups p.housing.fillings.items homes cols p.lists.plan_run.plan.now p.lent.now)
