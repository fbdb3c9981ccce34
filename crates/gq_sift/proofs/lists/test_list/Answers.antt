use Rattle.std.proofs.Common.{◌≡◌, ◌<◌, ◌≤◌, ◌+◌, ◌==◌, ◌&&◌, ℕ, Some, false, nat_lt, ap, refl, sym, subst, ◌∙◌, arith, length, get_or}
use Rattle.std.specs.Prelude.{Bool, List, not, slice_index}
use Rattle.std.proofs.lemmas.Bool.{le-ltb}
use Rattle.gq_bits.specs.Places.{is_marked}
use Rattle.gq_plan.specs.declared.assignment.Assignment.{Assignment}
use Rattle.gq_steps.specs.Tests.{loop_of, pair_of, test_of}
use Rattle.gq_sift.specs.Tested.{by_rows, far_row}
use Rattle.gq_steps.specs.Levels.{Run, step_at}
use Rattle.gq_steps.specs.Moves.{IsRun, run_of, steps_in}
use Rattle.gq_steps.specs.declared.plan_run.PlanRun.{PlanRun}
use Rattle.gq_steps.proofs.Trying.{as_many_steps}
use Rattle.gq_steps.specs.steps.Outcomes.{passes_at, with_row}
use Rattle.gq_steps.specs.Follows.{CanFollow}
use Rattle.gq_plan.specs.declared.follow.Follow.{Follow}
use Rattle.gq_sift.proofs.Kept.{kept_from, kept_next, kept_to, kept_within}
use Rattle.gq_sift.proofs.Listed.{can_list, part_item, part_long, rows_each}
use Rattle.gq_sift.proofs.lists.test_list.Goals as goal
use Rattle.gq_sift.proofs.lists.test_list.Goals.{After-part_of-ids, In-loop-depth}

pub list-list-requires : goal.list-list-requires
list-list-requires c = can_list (run_of c.args.plan_run.now) c.requires.run c.args.group c.requires.steps c.args.follow c.requires.filters c.args.row.now c.requires.held

pub part_of-ids-requires-clause-inside : goal.part_of-ids-requires-clause-inside
part_of-ids-requires-clause-inside c = omega (arith, c.requires.inside, ap length c.list-list.ensures.value)

-- a test keeps the places at whose row it is true
abbrev Tests : Run → Follow → ℕ → List ℕ → List Bool → List Bool → Assignment → Type 0
Tests k f d ids before after row =
    (i : ℕ) → test_of (step_at k d) ≡ Some i → (j : ℕ) → is_marked after j ≡ (is_marked before j && passes_at k.graph k.typed (with_row f.to (slice_index ids j) row) i)

-- a pair that is asked to differ keeps all
abbrev Pairs : Run → ℕ → List Bool → List Bool → Type 0
Pairs k d before after = (number : ℕ) → pair_of (step_at k d) ≡ Some number → after ≡ before

-- one that asks for no loop drops the row that is followed from
abbrev Loops : Run → Follow → ℕ → List ℕ → List Bool → List Bool → Assignment → Type 0
Loops k f d ids before after row =
    loop_of (step_at k d) ≡ Some f.rel → (j : ℕ) → is_marked after j ≡ (is_marked before j && not (slice_index ids j == slice_index row.nodes f.from))

inside : (c : After-part_of-ids) → c.args.first + c.args.count ≤ length c.list-list.result.now
inside c = omega (arith, c.requires.inside, ap length c.list-list.ensures.value)

many : (c : After-part_of-ids) → length c.part_of-ids.result.now ≡ c.args.count
many c = part_long c.list-list.result.now c.part_of-ids.result.now c.args.first c.args.count c.part_of-ids.ensures (inside c)

-- the items of the part are the rows at their places
items : (c : After-part_of-ids) (j : ℕ) → j < c.args.count → slice_index c.part_of-ids.result.now j ≡ far_row (run_of c.args.plan_run.now) c.args.follow c.args.row.now (c.args.first + j)
items c j low = part_item c.list-list.result.now c.part_of-ids.result.now c.args.first c.args.count j c.part_of-ids.ensures low ∙ ap (λ xs. get_or xs (c.args.first + j) 0) c.list-list.ensures.value

within : (c : In-loop-depth) (j : ℕ) → c.args.count ≤ j → is_marked c.loop-depth.marks j ≡ false
within c j past =
    kept_within (λ j. nat_lt j c.args.count) (by_rows (run_of c.args.plan_run.now) c.args.follow c.args.first c.args.row.now) c.args.group.first c.loop-depth.depth c.loop-depth.marks c.loop-depth.invariant.0 j (le-ltb j c.args.count past)

pub loop-depth-init : goal.loop-depth-init
loop-depth-init c = (
  kept_from (λ j. nat_lt j c.args.count) (by_rows (run_of c.args.plan_run.now) c.args.follow c.args.first c.args.row.now) c.args.group.first c.first.result c.first.ensures.below,
  refl,
  refl,
)

pub keep_tested-requires-clause-run : goal.keep_tested-requires-clause-run
keep_tested-requires-clause-run c = subst (λ (p : PlanRun). IsRun (run_of p)) (sym c.loop-depth.invariant.2) c.requires.run

pub keep_tested-requires-clause-depth : goal.keep_tested-requires-clause-depth
keep_tested-requires-clause-depth c =
    let low : c.loop-depth.depth < length (steps_in c.args.plan_run.now) = (let end = c.requires.steps.inside in let below = c.loop-depth-test.true in omega (arith, end, below, as_many_steps c.args.plan_run.now)) in
    subst (λ (p : PlanRun). c.loop-depth.depth < length (steps_in p)) (sym c.loop-depth.invariant.2) low

pub keep_tested-requires-clause-can : goal.keep_tested-requires-clause-can
keep_tested-requires-clause-can c =
    let k = run_of c.args.plan_run.now in
    subst (λ (p : PlanRun). CanFollow p.graph.now p.typed.now c.loop-depth.row c.args.follow) (sym c.loop-depth.invariant.2)
    (subst (λ (r : Assignment). CanFollow k.graph k.typed r c.args.follow) (sym c.loop-depth.invariant.1) (can_list k c.requires.run c.args.group c.requires.steps c.args.follow c.requires.filters c.args.row.now c.requires.held).follow)

pub keep_tested-requires-clause-few : goal.keep_tested-requires-clause-few
keep_tested-requires-clause-few c = omega (arith, c.requires.count, many (goal.at.keep_tested-requires-clause-few c).After-part_of-ids)

pub keep_tested-requires-clause-within : goal.keep_tested-requires-clause-within
keep_tested-requires-clause-within c = λ j past. within (goal.at.keep_tested-requires-clause-within c).In-loop-depth j (omega (arith, past, many (goal.at.keep_tested-requires-clause-within c).After-part_of-ids))

above : (c : In-loop-depth) → c.args.group.first < c.loop-depth.depth
above c = let low = c.loop-depth.auto.depth in omega arith

pub loop-depth-preserved : goal.loop-depth-preserved
loop-depth-preserved c =
    let w = (goal.at.loop-depth-preserved c).In-loop-depth in
    let k = run_of c.args.plan_run.now in
    let f = c.args.follow in
    let ids = c.part_of-ids.result.now in
    let d = c.loop-depth.depth in
    let before = c.loop-depth.marks in
    let after = c.keep_tested.new.marks in
    let tests : Tests k f d ids before after c.args.row.now =
    subst (Tests k f d ids before after) c.loop-depth.invariant.1 (subst (λ (p : PlanRun). Tests (run_of p) f d ids before after c.loop-depth.row) c.loop-depth.invariant.2 c.keep_tested.ensures.tests) in
    let pairs : Pairs k d before after = subst (λ (p : PlanRun). Pairs (run_of p) d before after) c.loop-depth.invariant.2 c.keep_tested.ensures.pairs in
    let loops : Loops k f d ids before after c.args.row.now =
    subst (Loops k f d ids before after) c.loop-depth.invariant.1 (subst (λ (p : PlanRun). Loops (run_of p) f d ids before after c.loop-depth.row) c.loop-depth.invariant.2 c.keep_tested.ensures.loops) in (
      kept_next (λ j. nat_lt j c.args.count) (by_rows k f c.args.first c.args.row.now) c.args.group.first d (above w) before after c.loop-depth.invariant.0
          (rows_each k c.requires.run c.args.group c.requires.steps f c.requires.filters c.args.row.now c.requires.held c.args.first d (above w) c.loop-depth-test.true before after ids c.args.count
          (many (goal.at.loop-depth-preserved c).After-part_of-ids) (items (goal.at.loop-depth-preserved c).After-part_of-ids) (within w) tests pairs loops),
      c.keep_tested.ensures.row ∙ c.loop-depth.invariant.1,
      c.keep_tested.ensures.same ∙ c.loop-depth.invariant.2,
    )

pub returns-clause-tested : goal.returns-clause-tested
returns-clause-tested c =
    let some = c.requires.steps.some in
    record {
      whole = c.word-whole.ensures.whole;
      kept = kept_to (λ j. nat_lt j c.args.count) (by_rows (run_of c.args.plan_run.now) c.args.follow c.args.first c.args.row.now) c.args.group.first c.loop-depth.depth c.args.group.end c.loop-depth.marks (c.loop-depth.auto.depth-end (omega (arith, some))) (let past = c.loop-depth-test.false in omega (arith, past)) c.loop-depth.invariant.0;
    }
