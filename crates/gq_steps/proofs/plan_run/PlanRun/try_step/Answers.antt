use Rattle.std.proofs.Common.{◌≡◌, ℕ, ◌<◌, List, length, None, arith, Bool, false, true, slice_get, sym, ap, ◌∙◌, subst}
use Rattle.gq_plan.specs.Conditions.{passes, differs, no_loop}
use Rattle.gq_plan.specs.Meaning.{holds}
use Rattle.gq_plan.specs.Plans.{Plan, Join}
use Rattle.gq_steps.specs.Pieces.{matches_in}
use Rattle.gq_steps.specs.Levels.{step_at}
use Rattle.gq_steps.specs.Moves.{run_of, IsRun, IsTried, steps_in, builds_in}
use Rattle.gq_steps.specs.steps.Outcomes.{tested, CanJoin, IsJoined}
use Rattle.gq_plan.specs.Rows.{as_read}
use Rattle.gq_steps.specs.declared.action.Action.TheVariants as act
use Rattle.gq_steps.specs.declared.plan_run.Tried.{Tried}
use Rattle.gq_join.specs.Kept.{Held}
use Rattle.gq_steps.specs.declared.plan_run.PlanRun.{PlanRun}
use Rattle.gq_steps.proofs.Acting.{acts}
use Rattle.gq_steps.proofs.Joined.{builds_many, can_join, join_tried, not_none, there}
use Rattle.gq_steps.proofs.Testing.{keep_tried, differ_tried, no_loop_tried}
use Rattle.gq_steps.proofs.Trying.{as_many_steps, low_step, tested_past, scan_low, scan_tried, extend_can, extend_tried, close_can, close_tried, single_can, single_tried, meet_can, meet_tried}
use Rattle.gq_steps.proofs.plan_run.PlanRun.try_step.Goals as goal
use Rattle.gq_steps.proofs.plan_run.PlanRun.try_step.Goals.{In-Join, then-place-eq0, else-place-eq0, then-place-eq0-2, else-place-eq0-2, then-place-eq0-3, else-place-eq0-3}

pub scan-requires-clause-node : goal.scan-requires-clause-node
scan-requires-clause-node c = scan_low (run_of c.args.self.now) c.requires.run c.args.depth (low_step c.args.self.now c.args.depth c.requires.depth) c.args.row.now c.requires.held c.in-Scan.node (acts c.args.self.now c.args.depth c.action.result (act.Scan c.in-Scan.node) c.action.ensures c.in-Scan.is)

pub returns-in-Scan : goal.returns-in-Scan
returns-in-Scan c = scan_tried (run_of c.args.self.now) c.requires.run c.args.depth (low_step c.args.self.now c.args.depth c.requires.depth) c.args.row.now c.requires.held c.in-Scan.node c.args.place c.scan.new.row c.scan.result (acts c.args.self.now c.args.depth c.action.result (act.Scan c.in-Scan.node) c.action.ensures c.in-Scan.is) c.scan.ensures

pub extend-requires : goal.extend-requires
extend-requires c = extend_can (run_of c.args.self.now) c.requires.run c.args.depth (low_step c.args.self.now c.args.depth c.requires.depth) c.args.row.now c.requires.held false c.in-List.follow.rel c.in-List.follow.from c.in-List.follow.to c.in-List.follow.direction (acts c.args.self.now c.args.depth c.action.result (act.List c.in-List.follow) c.action.ensures c.in-List.is)

pub returns-in-List : goal.returns-in-List
returns-in-List c = extend_tried (run_of c.args.self.now) c.requires.run c.args.depth (low_step c.args.self.now c.args.depth c.requires.depth) c.args.row.now c.requires.held false c.in-List.follow.rel c.in-List.follow.from c.in-List.follow.to c.in-List.follow.direction (acts c.args.self.now c.args.depth c.action.result (act.List c.in-List.follow) c.action.ensures c.in-List.is) c.args.place c.extend.new.row c.extend.result c.extend.ensures

pub extend-requires-in-Column : goal.extend-requires-in-Column
extend-requires-in-Column c = extend_can (run_of c.args.self.now) c.requires.run c.args.depth (low_step c.args.self.now c.args.depth c.requires.depth) c.args.row.now c.requires.held true c.in-Column.follow.rel c.in-Column.follow.from c.in-Column.follow.to c.in-Column.follow.direction (acts c.args.self.now c.args.depth c.action.result (act.Column c.in-Column.follow) c.action.ensures c.in-Column.is)

pub returns-in-Column : goal.returns-in-Column
returns-in-Column c = extend_tried (run_of c.args.self.now) c.requires.run c.args.depth (low_step c.args.self.now c.args.depth c.requires.depth) c.args.row.now c.requires.held true c.in-Column.follow.rel c.in-Column.follow.from c.in-Column.follow.to c.in-Column.follow.direction (acts c.args.self.now c.args.depth c.action.result (act.Column c.in-Column.follow) c.action.ensures c.in-Column.is) c.args.place c.extend-in-Column.new.row c.extend-in-Column.result c.extend-in-Column.ensures

pub close-requires : goal.close-requires
close-requires c = close_can (run_of c.args.self.now) c.requires.run c.args.depth (low_step c.args.self.now c.args.depth c.requires.depth) c.args.row.now c.requires.held false c.in-Close.follow.rel c.in-Close.follow.from c.in-Close.follow.to c.in-Close.follow.direction (acts c.args.self.now c.args.depth c.action.result (act.Close c.in-Close.follow) c.action.ensures c.in-Close.is)

pub returns-in-Close : goal.returns-in-Close
returns-in-Close c = close_tried (run_of c.args.self.now) c.requires.run c.args.depth (low_step c.args.self.now c.args.depth c.requires.depth) c.args.row.now c.requires.held false c.in-Close.follow.rel c.in-Close.follow.from c.in-Close.follow.to c.in-Close.follow.direction (acts c.args.self.now c.args.depth c.action.result (act.Close c.in-Close.follow) c.action.ensures c.in-Close.is) c.args.place c.close.new.row c.close.result c.close.ensures

pub close-requires-in-ColumnClose : goal.close-requires-in-ColumnClose
close-requires-in-ColumnClose c = close_can (run_of c.args.self.now) c.requires.run c.args.depth (low_step c.args.self.now c.args.depth c.requires.depth) c.args.row.now c.requires.held true c.in-ColumnClose.follow.rel c.in-ColumnClose.follow.from c.in-ColumnClose.follow.to c.in-ColumnClose.follow.direction (acts c.args.self.now c.args.depth c.action.result (act.ColumnClose c.in-ColumnClose.follow) c.action.ensures c.in-ColumnClose.is)

pub returns-in-ColumnClose : goal.returns-in-ColumnClose
returns-in-ColumnClose c = close_tried (run_of c.args.self.now) c.requires.run c.args.depth (low_step c.args.self.now c.args.depth c.requires.depth) c.args.row.now c.requires.held true c.in-ColumnClose.follow.rel c.in-ColumnClose.follow.from c.in-ColumnClose.follow.to c.in-ColumnClose.follow.direction (acts c.args.self.now c.args.depth c.action.result (act.ColumnClose c.in-ColumnClose.follow) c.action.ensures c.in-ColumnClose.is) c.args.place c.close-in-ColumnClose.new.row c.close-in-ColumnClose.result c.close-in-ColumnClose.ensures

pub take-requires : goal.take-requires
take-requires c = single_can (run_of c.args.self.now) c.requires.run c.args.depth (low_step c.args.self.now c.args.depth c.requires.depth) c.args.row.now c.requires.held c.in-Take.follow.rel c.in-Take.follow.from c.in-Take.follow.to c.in-Take.follow.direction (acts c.args.self.now c.args.depth c.action.result (act.Take c.in-Take.follow) c.action.ensures c.in-Take.is)

pub returns-in-Take : goal.returns-in-Take
returns-in-Take c = single_tried (run_of c.args.self.now) c.requires.run c.args.depth (low_step c.args.self.now c.args.depth c.requires.depth) c.args.row.now c.requires.held c.in-Take.follow.rel c.in-Take.follow.from c.in-Take.follow.to c.in-Take.follow.direction (acts c.args.self.now c.args.depth c.action.result (act.Take c.in-Take.follow) c.action.ensures c.in-Take.is) c.args.place c.take.new.row c.take.result c.take.ensures

pub meets-requires : goal.meets-requires
meets-requires c = meet_can (run_of c.args.self.now) c.requires.run c.args.depth (low_step c.args.self.now c.args.depth c.requires.depth) c.args.row.now c.requires.held c.in-Meet.follow.rel c.in-Meet.follow.from c.in-Meet.follow.to c.in-Meet.follow.direction (acts c.args.self.now c.args.depth c.action.result (act.Meet c.in-Meet.follow) c.action.ensures c.in-Meet.is)

pub returns-in-Meet : goal.returns-in-Meet
returns-in-Meet c =
    subst (λ (told : Tried). IsTried (run_of c.args.self.now) c.args.depth c.args.place c.args.row.now c.args.row.now told) (sym c.tested-in-Meet.ensures)
    (meet_tried (run_of c.args.self.now) c.requires.run c.args.depth (low_step c.args.self.now c.args.depth c.requires.depth) c.args.row.now c.requires.held c.in-Meet.follow.rel c.in-Meet.follow.from c.in-Meet.follow.to c.in-Meet.follow.direction (acts c.args.self.now c.args.depth c.action.result (act.Meet c.in-Meet.follow) c.action.ensures c.in-Meet.is) c.args.place c.meets.result c.meets.ensures)

-- the step joins
joins : (c : In-Join) → (side : Plan) × (keys : List ℕ) × (step_at (run_of c.args.self.now) c.args.depth ≡ Join side keys)
joins c = acts c.args.self.now c.args.depth c.action.result (act.Join) c.action.ensures c.in-Join.is

build_low : (k : PlanRun) → IsRun (run_of k) → (d : ℕ) → d < length (steps_in k) → d < length (builds_in k)
build_low k run d low = let many = builds_many k.graph.now k.typed.now (run_of k).steps (builds_in k) run.builds in let same : length (run_of k).steps ≡ length (steps_in k) = as_many_steps k in omega (arith, low, many, same)

pub build_at-requires : goal.build_at-requires
build_at-requires c = build_low c.args.self.now c.requires.run c.args.depth c.requires.depth

pub unreachable-requires : goal.unreachable-requires
unreachable-requires c =
    let j = joins (goal.at.unreachable-requires c).In-Join in
    not_none (run_of c.args.self.now) c.requires.run c.args.depth (low_step c.args.self.now c.args.depth c.requires.depth) c.args.row.now c.requires.held j.0 j.1 j.2 None (build_low c.args.self.now c.requires.run c.args.depth c.requires.depth) (sym c.in-None.ensures)

pub join-requires-clause-can : goal.join-requires-clause-can
join-requires-clause-can c =
    let j = joins (goal.at.join-requires-clause-can c).In-Join in
    subst (λ (b : Held). CanJoin b c.args.row.now)
    (there (run_of c.args.self.now) c.requires.run c.args.depth (low_step c.args.self.now c.args.depth c.requires.depth) c.args.row.now c.requires.held j.0 j.1 j.2 None c.in-Some.build.now (build_low c.args.self.now c.requires.run c.args.depth c.requires.depth) (sym c.in-Some.ensures))
    (can_join (run_of c.args.self.now) c.requires.run c.args.depth (low_step c.args.self.now c.args.depth c.requires.depth) c.args.row.now c.requires.held j.0 j.1 j.2)

pub join-requires-clause-matches : goal.join-requires-clause-matches
join-requires-clause-matches c =
    let j = joins (goal.at.join-requires-clause-matches c).In-Join in
    c.requires.matches.are j.0 j.1 j.2 ∙ ap (λ o. matches_in o c.args.row.now) (sym c.in-Some.ensures)

pub returns-in-Some : goal.returns-in-Some
returns-in-Some c =
    let j = joins (goal.at.returns-in-Some c).In-Join in
    join_tried (run_of c.args.self.now) c.requires.run c.args.depth (low_step c.args.self.now c.args.depth c.requires.depth) c.args.row.now c.requires.held j.0 j.1 j.2 c.args.place c.join.new.row c.join.result
    (subst (λ (b : Held). IsJoined b c.args.place c.args.row.now c.join.new.row c.join.result)
    (sym (there (run_of c.args.self.now) c.requires.run c.args.depth (low_step c.args.self.now c.args.depth c.requires.depth) c.args.row.now c.requires.held j.0 j.1 j.2 None c.in-Some.build.now (build_low c.args.self.now c.requires.run c.args.depth c.requires.depth) (sym c.in-Some.ensures))) c.join.ensures)

pub returns-after-place-eq0 : goal.returns-after-place-eq0
returns-after-place-eq0 c =
    let passed : Bool = holds (passes c.args.self.now.graph.now (as_read c.args.self.now.typed.now c.args.row.now)) (slice_get c.args.self.now.typed.now.tests c.in-Test.test) in
    let same : tested c.args.place c.if-place-eq0.tested ≡ tested c.args.place passed = elim c.if-place-eq0.branch [
      | then-place-eq0 w ↦ ap (tested c.args.place) (w.tested-is ∙ w.keep.ensures)
      | else-place-eq0 w ↦ tested_past c.args.place c.if-place-eq0.tested passed w.if-place-eq0.false
    ] in
    subst (λ (told : Tried). IsTried (run_of c.args.self.now) c.args.depth c.args.place c.args.row.now c.args.row.now told) (sym (c.tested.ensures ∙ same))
    (keep_tried (run_of c.args.self.now) c.requires.run c.args.depth (low_step c.args.self.now c.args.depth c.requires.depth) c.args.row.now c.requires.held c.in-Test.test (acts c.args.self.now c.args.depth c.action.result (act.Test c.in-Test.test) c.action.ensures c.in-Test.is) c.args.place)

pub returns-after-place-eq0-2 : goal.returns-after-place-eq0-2
returns-after-place-eq0-2 c =
    let passed : Bool = holds (differs (as_read c.args.self.now.typed.now c.args.row.now)) (slice_get c.args.self.now.typed.now.pairs c.in-Differ.pair) in
    let same : tested c.args.place c.if-place-eq0-2.tested ≡ tested c.args.place passed = elim c.if-place-eq0-2.branch [
      | then-place-eq0-2 w ↦ ap (tested c.args.place) (w.tested-is ∙ w.differ.ensures)
      | else-place-eq0-2 w ↦ tested_past c.args.place c.if-place-eq0-2.tested passed w.if-place-eq0-2.false
    ] in
    subst (λ (told : Tried). IsTried (run_of c.args.self.now) c.args.depth c.args.place c.args.row.now c.args.row.now told) (sym (c.tested-in-Differ.ensures ∙ same))
    (differ_tried (run_of c.args.self.now) c.requires.run c.args.depth (low_step c.args.self.now c.args.depth c.requires.depth) c.args.row.now c.requires.held c.in-Differ.pair (acts c.args.self.now c.args.depth c.action.result (act.Differ c.in-Differ.pair) c.action.ensures c.in-Differ.is) c.args.place)

pub returns-after-place-eq0-3 : goal.returns-after-place-eq0-3
returns-after-place-eq0-3 c =
    let passed : Bool = holds (no_loop (as_read c.args.self.now.typed.now c.args.row.now)) (slice_get c.args.self.now.typed.now.rels c.in-NoLoop.rel) in
    let same : tested c.args.place c.if-place-eq0-3.tested ≡ tested c.args.place passed = elim c.if-place-eq0-3.branch [
      | then-place-eq0-3 w ↦ ap (tested c.args.place) (w.tested-is ∙ w.no_loop.ensures)
      | else-place-eq0-3 w ↦ tested_past c.args.place c.if-place-eq0-3.tested passed w.if-place-eq0-3.false
    ] in
    subst (λ (told : Tried). IsTried (run_of c.args.self.now) c.args.depth c.args.place c.args.row.now c.args.row.now told) (sym (c.tested-in-NoLoop.ensures ∙ same))
    (no_loop_tried (run_of c.args.self.now) c.requires.run c.args.depth (low_step c.args.self.now c.args.depth c.requires.depth) c.args.row.now c.requires.held c.in-NoLoop.rel (acts c.args.self.now c.args.depth c.action.result (act.NoLoop c.in-NoLoop.rel) c.action.ensures c.in-NoLoop.is) c.args.place)
