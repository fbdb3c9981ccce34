use Rattle.std.proofs.Common.{◌≡◌, ◌∙◌, ◌<◌, ◌+◌, ◌++◌, ◌∷◌, ℕ, true, length, sym, ap, ap₂, subst, arith, List, [], Bool}
use Rattle.std.specs.Prelude.{slice_index_or}
use Rattle.std.proofs.lemmas.List.{get_or_default, length-map, length-set}
use Rattle.gq_search.specs.Running.{no_cursor, cursor_at, keys_of}
use Rattle.gq_search.specs.declared.walker.Cursor.{Cursor}
use Rattle.gq_pipe.specs.steps.Chunks.{AreStanding, CanStand, HasGroup, IsGroupAt, ShowsNumber, StoodAt}
use Rattle.gq_steps.specs.Groups.{no_group}
use Rattle.gq_steps.specs.Moves.{run_of}
use Rattle.gq_steps.specs.declared.group_steps.GroupSteps.{GroupSteps}
use Rattle.gq_pipe.proofs.Matching.{group_matches}
use Rattle.gq_pipe.proofs.Piecing.{can_stand, group_here, standing_more}
use Rattle.gq_group.specs.declared.group.Group.{Group}
use Rattle.gq_steps.proofs.Standings.{prefix_more}
use Rattle.gq_pipe.proofs.Staying.{shown_key, standing_on, stays}
use Rattle.gq_pipe.proofs.standing.put_groups.Goals as goal
use Rattle.gq_pipe.proofs.standing.put_groups.Goals.{then-same, else-same, then-not-same, else-not-same}

-- the item at an index, whatever stands for none
found : {X : Type 0} (xs : List X) (i : _) (d x : X) → i < length xs → x ≡ slice_index_or xs i x → slice_index_or xs i d ≡ x
found xs i d x low is = get_or_default xs i d x low ∙ sym is

pub put_group-requires-clause-stands : goal.put_group-requires-clause-stands
put_group-requires-clause-stands c =
    let test = c.loop-depth-test.true in
    let many = c.loop-depth.invariant.0 in
    let low : c.loop-depth.depth < length c.args.lists.now.groups.items = omega (arith, test, many, c.requires.groups) in
    let c' = run_of c.args.lists.now.plan_run in
    subst (λ (x : Cursor). CanStand c' c.args.lists.now.row c.index-steps.result.now x) (found c.args.walker.now.cursors.items c.loop-depth.depth no_cursor c.index-cursor.result.now (omega (arith, low, c.requires.cursors)) c.index-cursor.ensures)
    (subst (λ (s : GroupSteps). CanStand c' c.args.lists.now.row s (cursor_at c.args.walker.now.cursors.items c.loop-depth.depth)) (found c.args.lists.now.groups.items c.loop-depth.depth no_group c.index-steps.result.now low c.index-steps.ensures)
    (can_stand c' c.args.lists.now.groups.items c.args.lists.now.row c.args.walker.now.cursors.items c.args.walker.now.marks.items c.requires.stands c.requires.runs c.requires.cursors c.loop-depth.depth low))

pub put_group-requires-clause-matches : goal.put_group-requires-clause-matches
put_group-requires-clause-matches c =
    let test = c.loop-depth-test.true in
    let many = c.loop-depth.invariant.0 in
    let low : c.loop-depth.depth < length c.args.lists.now.groups.items = omega (arith, test, many, c.requires.groups) in
    group_matches (run_of c.args.lists.now.plan_run) c.args.lists.now.groups.items c.args.lists.now.row c.loop-depth.depth low c.index-steps.result.now c.index-steps.ensures c.args.lists.now.matches.items (length (keys_of c.args.walker.now.cursors.items))
    (omega (arith, low, c.requires.cursors, length-map c.args.walker.now.cursors.items (λ (k : Cursor). k.key))) c.requires.matches c.index-matches.result.now c.index-matches.ensures

pub put_group-requires-clause-marks : goal.put_group-requires-clause-marks
put_group-requires-clause-marks c =
    let test = c.loop-depth-test.true in
    let many = c.loop-depth.invariant.0 in
    let low : c.loop-depth.depth < length c.args.lists.now.groups.items = omega (arith, test, many, c.requires.groups) in
    let c' = run_of c.args.lists.now.plan_run in
    ap length (sym (found c.args.walker.now.marks.items c.loop-depth.depth [] c.index-marks.result.now (omega (arith, low, c.requires.marks)) c.index-marks.ensures))
    ∙ (group_here c' c.args.lists.now.groups.items c.args.lists.now.row c.args.walker.now.cursors.items c.args.walker.now.marks.items c.requires.stands c.requires.runs c.requires.cursors c.loop-depth.depth low).marked.len

pub loop-depth-preserved : goal.loop-depth-preserved
loop-depth-preserved c =
    let test = c.loop-depth-test.true in
    let many = c.loop-depth.invariant.0 in
    let low : c.loop-depth.depth < length c.args.lists.now.groups.items = omega (arith, test, many, c.requires.groups) in
    let steps_is = found c.args.lists.now.groups.items c.loop-depth.depth no_group c.index-steps.result.now low c.index-steps.ensures in
    let cursor_is = found c.args.walker.now.cursors.items c.loop-depth.depth no_cursor c.index-cursor.result.now (omega (arith, low, c.requires.cursors)) c.index-cursor.ensures in
    let on : c.if-same.same ≡ true → (c.loop-depth.same ≡ true) × ((w : StoodAt (run_of c.args.lists.now.plan_run) c.args.lists.now.groups.items c.args.groups.now.items) → (cursor_at w.cursors c.loop-depth.depth).key ≡ (cursor_at c.args.walker.now.cursors.items c.loop-depth.depth).key) =
    elim c.if-same.branch [
      | then-same w ↦ λ e. (
        w.if-same.true,
        λ o. shown_key (run_of c.args.lists.now.plan_run) c.args.lists.now.groups.items c.args.groups.now.items o c.loop-depth.depth low w.index.result.now (subst (λ (l : List Group). w.index.result.now ≡ slice_index_or l c.loop-depth.depth w.index.result.now) (c.loop-depth.invariant.3 w.if-same.true) w.index.ensures) (cursor_at c.args.walker.now.cursors.items c.loop-depth.depth).key
            (subst (λ (x : Cursor). ShowsNumber w.index.result.now (slice_index_or c.args.lists.now.groups.items c.loop-depth.depth no_group).flat x.key) (sym cursor_is)
            (subst (λ (s : GroupSteps). ShowsNumber w.index.result.now s.flat c.index-cursor.result.now.key) (sym steps_is) (w.shows_number-same.ensures (sym w.same-is ∙ e)))),
      )
      | else-same w ↦ λ e. (let p = w.same-is in let q = w.if-same.false in cc)
    ] in (
      elim c.if-not-same.branch [
        | then-not-same w ↦ ap (λ v. length v.items) w.groups-is ∙ length-set c.loop-depth.groups.items c.loop-depth.depth w.put_group.new.group ∙ many
        | else-not-same w ↦ ap (λ v. length v.items) w.groups-is ∙ many
      ],
      elim c.if-not-same.branch [
        | then-not-same w ↦ subst (λ (l : List Group). AreStanding (run_of c.args.lists.now.plan_run) c.args.lists.now.groups.items c.args.lists.now.row c.args.walker.now.cursors.items c.args.walker.now.marks.items l (c.loop-depth.depth + 1)) (sym (ap (λ v. v.items) w.groups-is))
            (standing_more (run_of c.args.lists.now.plan_run) c.args.lists.now.groups.items c.args.lists.now.row c.args.walker.now.cursors.items c.args.walker.now.marks.items c.loop-depth.groups.items c.loop-depth.depth w.put_group.new.group (omega (arith, test, many)) c.loop-depth.invariant.1
            (subst (λ (s : GroupSteps). IsGroupAt (run_of c.args.lists.now.plan_run) c.args.lists.now.row s (cursor_at c.args.walker.now.cursors.items c.loop-depth.depth) (slice_index_or c.args.walker.now.marks.items c.loop-depth.depth []) w.put_group.new.group) (sym steps_is)
            (subst (λ (x : Cursor). IsGroupAt (run_of c.args.lists.now.plan_run) c.args.lists.now.row c.index-steps.result.now x (slice_index_or c.args.walker.now.marks.items c.loop-depth.depth []) w.put_group.new.group) (sym cursor_is)
            (subst (λ (m : List Bool). IsGroupAt (run_of c.args.lists.now.plan_run) c.args.lists.now.row c.index-steps.result.now c.index-cursor.result.now m w.put_group.new.group) (sym (found c.args.walker.now.marks.items c.loop-depth.depth [] w.index-marks.result.now (omega (arith, low, c.requires.marks)) w.index-marks.ensures))
            w.put_group.ensures))))
        | else-not-same w ↦
            (let seen = on w.if-not-same.false in
            let o : StoodAt (run_of c.args.lists.now.plan_run) c.args.lists.now.groups.items c.args.groups.now.items = c.requires.stood (c.loop-depth.invariant.2 seen.0) in
            let here : HasGroup (run_of c.args.lists.now.plan_run) c.args.lists.now.row (slice_index_or c.args.lists.now.groups.items c.loop-depth.depth no_group) (cursor_at c.args.walker.now.cursors.items c.loop-depth.depth) (slice_index_or c.args.walker.now.marks.items c.loop-depth.depth []) c.args.groups.now.items c.loop-depth.depth =
            stays (run_of c.args.lists.now.plan_run) c.args.lists.now.groups.items c.args.lists.now.row c.args.walker.now.cursors.items c.args.walker.now.marks.items c.args.groups.now.items c.requires.stands c.requires.runs c.requires.cursors o c.loop-depth.depth low (c.loop-depth.invariant.4 o seen.0) (seen.1 o) in
            subst (λ (l : List Group). AreStanding (run_of c.args.lists.now.plan_run) c.args.lists.now.groups.items c.args.lists.now.row c.args.walker.now.cursors.items c.args.walker.now.marks.items l (c.loop-depth.depth + 1)) (sym (ap (λ v. v.items) w.groups-is))
            (standing_on (run_of c.args.lists.now.plan_run) c.args.lists.now.groups.items c.args.lists.now.row c.args.walker.now.cursors.items c.args.walker.now.marks.items c.loop-depth.groups.items c.loop-depth.depth c.loop-depth.invariant.1
            (subst (λ (l : List Group). HasGroup (run_of c.args.lists.now.plan_run) c.args.lists.now.row (slice_index_or c.args.lists.now.groups.items c.loop-depth.depth no_group) (cursor_at c.args.walker.now.cursors.items c.loop-depth.depth) (slice_index_or c.args.walker.now.marks.items c.loop-depth.depth []) l c.loop-depth.depth) (sym (c.loop-depth.invariant.3 seen.0)) here)))
      ],
      λ e. c.loop-depth.invariant.2 (on e).0,
      elim c.if-not-same.branch [
        | then-not-same w ↦ λ e. (let p = w.if-not-same.true in cc)
        | else-not-same w ↦ λ e. ap (λ v. v.items) w.groups-is ∙ c.loop-depth.invariant.3 (on e).0
      ],
      λ o e. (let many_old = o.many in
          prefix_more o.cursors c.loop-depth.depth (omega (arith, low, many_old))
          ∙ ap₂ (λ (p : List ℕ) (k : ℕ). p ++ k ∷ []) (c.loop-depth.invariant.4 o (on e).0) ((on e).1 o)
          ∙ sym (prefix_more c.args.walker.now.cursors.items c.loop-depth.depth (omega (arith, low, c.requires.cursors)))),
    )
