use Rattle.std.proofs.Common.{◌≡◌, ◌<◌, ◌+◌, ◌&&◌, ℕ, List, Bool, Some, ap, refl, sym, subst, ◌∙◌, arith, length}
use Rattle.gq_bits.specs.Places.{is_marked}
use Rattle.gq_plan.specs.declared.assignment.Assignment.{Assignment}
use Rattle.gq_steps.specs.Keeps.{IsSifted}
use Rattle.gq_steps.specs.Levels.{Run, step_at}
use Rattle.gq_steps.specs.Moves.{IsRun, run_of, steps_in}
use Rattle.gq_steps.specs.declared.plan_run.PlanRun.{PlanRun}
use Rattle.gq_steps.proofs.Trying.{as_many_steps}
use Rattle.gq_steps.specs.steps.Outcomes.{passes_at, with_row}
use Rattle.gq_steps.specs.Tests.{test_of}
use Rattle.gq_sift.proofs.Scanned.{filtering_from, filtering_next, filtering_node, filtering_within, filtered}
use Rattle.gq_sift.proofs.filtering.filter.Goals as goal

-- a test keeps the places at whose row it is true
abbrev KeptBy : Run → ℕ → ℕ → ℕ → List Bool → List Bool → Assignment → Type 0
KeptBy k d node first before after row =
    (i : ℕ) → test_of (step_at k d) ≡ Some i → (j : ℕ) → is_marked after j ≡ (is_marked before j && passes_at k.graph k.typed (with_row node (first + j) row) i)

pub loop-depth-init : goal.loop-depth-init
loop-depth-init c = (
  filtering_from (run_of c.args.plan_run.now) c.requires.run c.args.group c.requires.steps c.args.node c.requires.filters c.args.first c.args.count c.args.row.now c.requires.held c.requires.inside c.requires.fits c.first.result c.first.ensures.below,
  refl,
  refl,
)

pub keep_rows-requires-clause-run : goal.keep_rows-requires-clause-run
keep_rows-requires-clause-run c = subst (λ (p : PlanRun). IsRun (run_of p)) (sym c.loop-depth.invariant.2) c.requires.run

pub keep_rows-requires-clause-depth : goal.keep_rows-requires-clause-depth
keep_rows-requires-clause-depth c =
    let low : c.loop-depth.depth < length (steps_in c.args.plan_run.now) = (let end = c.requires.steps.inside in let below = c.loop-depth-test.true in omega (arith, end, below, as_many_steps c.args.plan_run.now)) in
    subst (λ (p : PlanRun). c.loop-depth.depth < length (steps_in p)) (sym c.loop-depth.invariant.2) low

pub keep_rows-requires-clause-node : goal.keep_rows-requires-clause-node
keep_rows-requires-clause-node c =
    let low = filtering_node (run_of c.args.plan_run.now) c.requires.run c.args.group c.requires.steps c.args.node c.requires.filters c.args.first c.args.count c.args.row.now c.requires.held in
    omega (arith, low, ap (λ (r : Assignment). length r.nodes) c.loop-depth.invariant.1)

pub keep_rows-requires-clause-within : goal.keep_rows-requires-clause-within
keep_rows-requires-clause-within c =
    filtering_within (run_of c.args.plan_run.now) c.args.group c.args.node c.args.first c.args.count c.args.row.now c.loop-depth.depth c.loop-depth.marks c.loop-depth.invariant.0

pub loop-depth-preserved : goal.loop-depth-preserved
loop-depth-preserved c =
    let k = run_of c.args.plan_run.now in
    let above : c.args.group.first < c.loop-depth.depth = (let low = c.loop-depth.auto.depth in omega arith) in
    let kept : KeptBy k c.loop-depth.depth c.args.node c.args.first c.loop-depth.marks c.keep_rows.new.marks c.args.row.now =
    subst (KeptBy k c.loop-depth.depth c.args.node c.args.first c.loop-depth.marks c.keep_rows.new.marks) c.loop-depth.invariant.1
    (subst (λ (p : PlanRun). KeptBy (run_of p) c.loop-depth.depth c.args.node c.args.first c.loop-depth.marks c.keep_rows.new.marks c.loop-depth.row) c.loop-depth.invariant.2 c.keep_rows.ensures.kept) in (
      filtering_next k c.requires.run c.args.group c.requires.steps c.args.node c.requires.filters c.args.first c.args.count c.args.row.now c.requires.held c.loop-depth.depth above c.loop-depth-test.true c.loop-depth.marks c.keep_rows.new.marks c.loop-depth.invariant.0 kept,
      c.keep_rows.ensures.row ∙ c.loop-depth.invariant.1,
      c.keep_rows.ensures.same ∙ c.loop-depth.invariant.2,
    )

pub returns-clause-sifted : goal.returns-clause-sifted
returns-clause-sifted c =
    let k = run_of c.args.plan_run.now in
    subst (λ (r : Assignment). IsSifted k c.args.group c.args.first c.args.count c.args.row.now r c.loop-depth.marks) (sym c.loop-depth.invariant.1)
    (filtered k c.requires.run c.args.group c.requires.steps c.args.node c.requires.filters c.args.first c.args.count c.args.row.now c.requires.held c.loop-depth.depth c.loop-depth.marks c.word-whole.ensures.whole c.loop-depth.invariant.0 c.loop-depth-test.false)
