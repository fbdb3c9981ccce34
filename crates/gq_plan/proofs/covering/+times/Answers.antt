use Rattle.std.proofs.Common.{◌≡◌, ◌∙◌, ◌+◌, ap, sym, min, map, drop, arith}
use Rattle.std.proofs.Math.ListN.{drop_of_length-le}
use Rattle.gq_plan.proofs.Demands.{times_append, left_out, left_in}
use Rattle.gq_plan.proofs.FirstSteps.{placed_first}
use Rattle.gq_plan.proofs.StepEquations.{plan_is, join_is}
use Rattle.gq_plan.proofs.covering.+times.Goals as goal
use Rattle.gq_plan.specs.Covers.{placed, placed_step, is_key}
use Rattle.gq_plan.specs.Plans.{steps, step_of, plan_of}
use Rattle.gq_plan.specs.steps.Times.{times}

pub times-loop-step-preserved : goal.times-loop-step-preserved
times-loop-step-preserved t c =
    let d = c.args.demand in
    let xs = c.as_slice-step-items.result.now in
    let rest = placed (steps (map step_of (drop (c.loop-step.step-index + 1) xs))) in
    let first : times d (placed (steps (map step_of (drop c.loop-step.step-index xs)))) ≡ times d (placed_step (step_of c.step-item.result)) + times d rest =
    ap (times d) (placed_first xs c.loop-step.step-index c.step-item.result c.loop-step-test.true c.step-item.is) ∙ times_append d (placed_step (step_of c.step-item.result)) rest in
    let before = c.loop-step.invariant.rest in
    let own = c.times_in_step-own.ensures in
    record { items = c.loop-step.invariant.items; few = omega arith; rest = omega arith ∙ before }

pub times-returns : goal.times-returns
unfolding placed
times-returns t c =
    let none : times c.args.demand (placed (steps (map step_of (drop c.loop-step.step-index c.as_slice-step-items.result.now)))) ≡ 0 =
    ap (λ ss. times c.args.demand (placed (steps (map step_of ss)))) (drop_of_length-le c.as_slice-step-items.result.now (omega arith)) in
    let before = c.loop-step.invariant.rest in
    let few = c.loop-step.invariant.few in
    let count : c.loop-step.count ≡ min 2 (c.loop-step.count + times c.args.demand (placed (steps (map step_of (drop c.loop-step.step-index c.as_slice-step-items.result.now))))) = omega arith in
    count ∙ before
    ∙ ap (λ ss. min 2 (times c.args.demand (placed (steps (map step_of ss))))) c.loop-step.invariant.items
    ∙ ap (λ p. min 2 (times c.args.demand (placed p))) (sym (plan_is c.args.plan.now))

pub times_in_step-returns-then-is_key : goal.times_in_step-returns-then-is_key
unfolding placed_step
times_in_step-returns-then-is_key t c =
    sym (ap (λ s. min 2 (times c.args.demand (placed_step (step_of s)))) c.in-Join.is
    ∙ ap (λ s. min 2 (times c.args.demand (placed_step s))) (join_is c.in-Join.side c.in-Join.keys)
    ∙ ap (min 2) (left_out (is_key c.in-Join.keys) c.args.demand (placed (plan_of c.in-Join.side)) (ap (λ ks. is_key ks c.args.demand) (sym c.as_slice.ensures) ∙ sym c.is_key.ensures ∙ c.if-is_key.true)))

pub times_in_step-returns-else-is_key : goal.times_in_step-returns-else-is_key
unfolding placed_step
times_in_step-returns-else-is_key t c =
    c.times.ensures
    ∙ ap (λ p. min 2 (times c.args.demand (placed (plan_of p)))) c.get.ensures
    ∙ sym (ap (λ s. min 2 (times c.args.demand (placed_step (step_of s)))) c.in-Join.is
    ∙ ap (λ s. min 2 (times c.args.demand (placed_step s))) (join_is c.in-Join.side c.in-Join.keys)
    ∙ ap (min 2) (left_in (is_key c.in-Join.keys) c.args.demand (placed (plan_of c.in-Join.side)) (ap (λ ks. is_key ks c.args.demand) (sym c.as_slice.ensures) ∙ sym c.is_key.ensures ∙ c.if-is_key.false)))
