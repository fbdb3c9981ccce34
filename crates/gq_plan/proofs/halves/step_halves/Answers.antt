use Rattle.std.proofs.Common.{◌∙◌, ◌+◌, ◌++◌, ap, sym, drop, map, append_assoc, append-nil, arith}
use Rattle.std.proofs.lemmas.List.{drop_all}
use Rattle.gq_plan.proofs.FirstSteps.{first_of_rest, steps_back}
use Rattle.gq_plan.proofs.StepEquations.{plan_is}
use Rattle.gq_plan.specs.Columns.{steps_of}
use Rattle.gq_plan.specs.Halves.{halves_of, numbered_halves}
use Rattle.gq_plan.specs.Plans.{step_of}
use Rattle.gq_plan.proofs.halves.step_halves.Goals as goal

pub loop-number-preserved : goal.loop-number-preserved
loop-number-preserved c =
    let xs = c.as_slice-steps.result.now in
    let i = c.loop-number.number in
    let x = c.index-steps-number.result in
    let rest = numbered_halves (i + 1) (map step_of (drop (i + 1) xs)) in
    ap (λ qs. qs ++ rest) c.in_ok-push_step.ensures
    ∙ append_assoc c.loop-number.all (map (λ h. record { step = i; half = h }) (halves_of (step_of x))) rest
    ∙ ap (λ ys. c.loop-number.all ++ numbered_halves i (map step_of ys)) (sym (first_of_rest xs i x c.loop-number-test.true c.index-steps-number.is))
    ∙ c.loop-number.invariant

pub returns : goal.returns
returns c =
    let xs = c.as_slice-steps.result.now in
    sym (append-nil c.loop-number.all)
    ∙ ap (λ ys. c.loop-number.all ++ numbered_halves c.loop-number.number (map step_of ys)) (sym (drop_all c.loop-number.number xs (let over = c.loop-number-test.false in omega (arith, over))))
    ∙ c.loop-number.invariant
    ∙ ap (λ ys. numbered_halves 0 (map step_of ys)) c.as_slice-steps.ensures
    ∙ ap (numbered_halves 0) (sym (ap steps_of (plan_is c.args.plan.now) ∙ steps_back (map step_of c.args.plan.now.steps)))
