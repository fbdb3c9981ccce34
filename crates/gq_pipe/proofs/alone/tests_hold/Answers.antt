use Rattle.std.proofs.Common.{◌≡◌, ◌∙◌, ◌+◌, ◌&&◌, Bool, ap, arith, drop, map, sym}
use Rattle.std.specs.List.{list_all}
use Rattle.std.proofs.lemmas.List.{drop_all}
use Rattle.gq_plan.proofs.FirstSteps.{first_of_rest}
use Rattle.gq_plan.specs.Plans.{Step, step_of}
use Rattle.gq_steps.specs.steps.Outcomes.{passes_at}
use Rattle.gq_pipe.specs.steps.Alone.{is_kept}
use Rattle.gq_pipe.proofs.alone.tests_hold.Goals as goal

pub steps-preserved : goal.steps-preserved
steps-preserved c =
    let kept : Step → Bool = is_kept (passes_at c.args.plan_run.now.graph.now c.args.plan_run.now.typed.now c.args.row.now) in
    let items = c.args.steps.now in
    let i = c.steps.step-index in
    let more = list_all kept (map step_of (drop (i + 1) items)) in
    let first : list_all kept (map step_of (drop i items)) ≡ (kept (step_of c.step-item.result) && more) =
    ap (λ ss. list_all kept (map step_of ss)) (first_of_rest items i c.step-item.result c.steps-test.true c.step-item.is) in
    sym (first ∙ ap (λ b. b && more) (sym c.holds.ensures ∙ c.if-not-holds.false)) ∙ c.steps.invariant

pub returns-then-not-holds : goal.returns-then-not-holds
returns-then-not-holds c =
    let kept : Step → Bool = is_kept (passes_at c.args.plan_run.now.graph.now c.args.plan_run.now.typed.now c.args.row.now) in
    let items = c.args.steps.now in
    let i = c.steps.step-index in
    let more = list_all kept (map step_of (drop (i + 1) items)) in
    let first : list_all kept (map step_of (drop i items)) ≡ (kept (step_of c.step-item.result) && more) =
    ap (λ ss. list_all kept (map step_of ss)) (first_of_rest items i c.step-item.result c.steps-test.true c.step-item.is) in
    sym (sym c.steps.invariant ∙ first ∙ ap (λ b. b && more) (sym c.holds.ensures ∙ c.if-not-holds.true))

pub returns : goal.returns
returns c =
    let kept : Step → Bool = is_kept (passes_at c.args.plan_run.now.graph.now c.args.plan_run.now.typed.now c.args.row.now) in
    let items = c.args.steps.now in
    let i = c.steps.step-index in
    sym (sym c.steps.invariant ∙ ap (λ ss. list_all kept (map step_of ss)) (drop_all i items (omega arith)))
