use Rattle.std.proofs.Common.{◌<◌, ◌^◌, ℕ, inl, inr, nat_lt, refl, subst, arith, length}
use Rattle.std.specs.Prelude.{All, List}
use Rattle.std.proofs.lemmas.Bool.{le-ltb}
use Rattle.gq_base.specs.Directions.{opposite}
use Rattle.gq_bits.specs.Places.{is_marked}
use Rattle.gq_plan.specs.Rows.{rel_table}
use Rattle.gq_sift.specs.steps.Numbers.{by_numbers}
use Rattle.gq_sift.specs.Tested.{AreKept, by_rows}
use Rattle.gq_steps.specs.Moves.{run_of}
use Rattle.gq_steps.specs.Tests.{IsCut}
use Rattle.gq_steps.proofs.Trying.{as_many_steps}
use Rattle.gq_store.specs.Neighbours.{near_rows}
use Rattle.gq_sift.proofs.Kept.{kept_from, kept_more, kept_next, kept_to, kept_within}
use Rattle.gq_sift.proofs.Listed.{can_list, listed, listed_action, no_numbers, numbers_each, other_low}
use Rattle.gq_sift.proofs.lists.drop_pairs.Goals as goal
use Rattle.gq_sift.proofs.lists.drop_pairs.Goals.{In-loop-depth}

pub list-list-requires : goal.list-list-requires
list-list-requires c = can_list (run_of c.args.plan_run.now) c.requires.run c.args.group c.requires.steps c.args.follow c.requires.filters c.args.row.now c.requires.held

pub loop-depth-init : goal.loop-depth-init
loop-depth-init c = kept_from (is_marked c.args.marks.now) (by_numbers (run_of c.args.plan_run.now) c.args.follow c.args.first c.args.row.now) c.args.group.first c.args.marks.now (λ j. refl)

-- the step at hand is one of the group
below : (c : In-loop-depth) → c.loop-depth.depth < c.args.group.end
below c = let low = c.loop-depth-test.true in let end = c.asking_end-end.ensures.within in omega (arith, low, end)

pub drop_pair-requires-clause-depth : goal.drop_pair-requires-clause-depth
drop_pair-requires-clause-depth c = let end = c.requires.steps.inside in omega (arith, end, below (goal.at.drop_pair-requires-clause-depth c).In-loop-depth, as_many_steps c.args.plan_run.now)

pub drop_pair-requires-clause-can : goal.drop_pair-requires-clause-can
drop_pair-requires-clause-can c = (can_list (run_of c.args.plan_run.now) c.requires.run c.args.group c.requires.steps c.args.follow c.requires.filters c.args.row.now c.requires.held).follow

above : (c : In-loop-depth) → c.args.group.first < c.loop-depth.depth
above c = let low = c.loop-depth.auto.depth in omega arith

pub drop_pair-requires-clause-others : goal.drop_pair-requires-clause-others
drop_pair-requires-clause-others c =
    other_low (run_of c.args.plan_run.now) c.requires.run c.args.group c.requires.steps c.args.follow c.requires.filters c.args.row.now c.requires.held c.loop-depth.depth (above (goal.at.drop_pair-requires-clause-others c).In-loop-depth) (below (goal.at.drop_pair-requires-clause-others c).In-loop-depth)

pub drop_pair-requires-clause-within : goal.drop_pair-requires-clause-within
drop_pair-requires-clause-within c = λ j past.
    kept_within (is_marked c.args.marks.now) (by_numbers (run_of c.args.plan_run.now) c.args.follow c.args.first c.args.row.now) c.args.group.first c.loop-depth.depth c.loop-depth.marks c.loop-depth.invariant j
    (kept_within (λ k. nat_lt k c.args.count) (by_rows (run_of c.args.plan_run.now) c.args.follow c.args.first c.args.row.now) c.args.group.first c.args.group.end c.args.marks.now c.requires.tested.kept j (le-ltb j c.args.count past))

pub loop-depth-preserved : goal.loop-depth-preserved
loop-depth-preserved c =
    let w = (goal.at.loop-depth-preserved c).In-loop-depth in
    let k = run_of c.args.plan_run.now in
    kept_next (is_marked c.args.marks.now) (by_numbers k c.args.follow c.args.first c.args.row.now) c.args.group.first c.loop-depth.depth (above w) c.loop-depth.marks c.drop_pair.new.marks c.loop-depth.invariant
    (numbers_each k c.requires.run c.args.group c.requires.steps c.args.follow c.requires.filters c.args.row.now c.requires.held c.args.first c.loop-depth.depth (above w) (below w) c.loop-depth.marks c.drop_pair.new.marks
    c.drop_pair.ensures.pairs c.drop_pair.ensures.others)

pub returns : goal.returns
returns c =
    let k = run_of c.args.plan_run.now in
    let f = c.args.follow in
    let some = c.asking_end-end.ensures.some in
    let end = c.asking_end-end.ensures.within in
    let low = c.loop-depth.auto.depth-end (omega (arith, some)) in
    let past = c.loop-depth-test.false in
    let old = c.args.marks.now in
    let new = c.loop-depth.marks in
    let by = by_numbers k f c.args.first c.args.row.now in
    let kept : AreKept (is_marked old) by c.args.group.first c.args.group.end new = elim c.asking_end-end.ensures.all [
      | inl same ↦ kept_to (is_marked old) by c.args.group.first c.loop-depth.depth c.args.group.end new (omega (arith, low, end)) (omega (arith, past, same)) c.loop-depth.invariant
      | inr list ↦
          (let decide = subst (IsCut k c.args.group.first c.args.group.end) list c.requires.steps.cut f
          (listed_action k c.requires.run c.args.group c.requires.steps f c.requires.filters c.args.row.now c.requires.held) in
          kept_more (is_marked old) by c.args.group.first c.loop-depth.depth c.args.group.end new old (omega (arith, low, end)) c.loop-depth.invariant
          (no_numbers k c.requires.run c.args.group c.requires.steps f c.requires.filters c.args.row.now c.requires.held decide c.args.first old) (λ j on. on))
    ] in
    listed k c.requires.run c.args.group c.requires.steps f c.requires.filters c.args.row.now c.requires.held
    (subst (All (λ other. other < near_rows k.graph (rel_table k.typed f.rel) (opposite f.direction))) c.list-list.ensures.value c.list-list.ensures.ends)
    (subst (λ (xs : List ℕ). length xs < 2 ^ 32) c.list-list.ensures.value c.list-list.ensures.few)
    c.args.first c.args.count c.requires.inside old new c.requires.tested c.word-whole.ensures.whole kept
