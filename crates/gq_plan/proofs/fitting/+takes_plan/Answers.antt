use Rattle.std.proofs.Common.{◌≡◌, ◌+◌, ◌∙◌, ap, sym, refl, ◌&&◌, map, drop, arith}
use Rattle.std.proofs.Math.ListN.{drop_of_length-le}
use Rattle.gq_plan.proofs.FirstSteps.{fits_first, after_first}
use Rattle.gq_plan.proofs.StepEquations.{plan_is}
use Rattle.gq_plan.proofs.fitting.+takes_plan.Goals as goal
use Rattle.gq_plan.specs.Covers.{fits, after, after_step}
use Rattle.gq_plan.specs.Known.{known_of}
use Rattle.gq_plan.specs.Plans.{steps, step_of}

pub takes_plan-returns-then-not-takes_step-clause-value :
    goal.takes_plan-returns-then-not-takes_step-clause-value
takes_plan-returns-then-not-takes_step-clause-value t c =
    let catalog = c.args.catalog.now in
    let y = c.args.typed.now in
    ap (λ b. b && fits catalog y (steps (map step_of (drop (c.loop-step.step-index + 1) c.as_slice-step-items.result.now))) (after_step (step_of c.step-item.result) (known_of c.loop-step.known))) c.if-not-takes_step.ensures.value
    ∙ sym (fits_first catalog y (known_of c.loop-step.known) c.as_slice-step-items.result.now c.loop-step.step-index c.step-item.result c.loop-step-test.true c.step-item.is)
    ∙ c.loop-step.invariant.fits
    ∙ ap (λ ss. fits catalog y (steps (map step_of ss)) (known_of c.args.known.now)) c.loop-step.invariant.items
    ∙ ap (λ p. fits catalog y p (known_of c.args.known.now)) (sym (plan_is c.args.plan.now))

pub takes_plan-loop-step-preserved : goal.takes_plan-loop-step-preserved
takes_plan-loop-step-preserved t c =
    let catalog = c.args.catalog.now in
    let y = c.args.typed.now in
    let rest = steps (map step_of (drop (c.loop-step.step-index + 1) c.as_slice-step-items.result.now)) in
    let bound : known_of c.takes_step.new.known ≡ after_step (step_of c.step-item.result) (known_of c.loop-step.known) = c.if-not-takes_step.ensures.bound refl in
    record {
      items = c.loop-step.invariant.items;
      fits =
          ap (fits catalog y rest) bound
          ∙ ap (λ b. b && fits catalog y rest (after_step (step_of c.step-item.result) (known_of c.loop-step.known))) c.if-not-takes_step.ensures.value
          ∙ sym (fits_first catalog y (known_of c.loop-step.known) c.as_slice-step-items.result.now c.loop-step.step-index c.step-item.result c.loop-step-test.true c.step-item.is)
          ∙ c.loop-step.invariant.fits;
      after =
          ap (after rest) bound
          ∙ sym (after_first (known_of c.loop-step.known) c.as_slice-step-items.result.now c.loop-step.step-index c.step-item.result c.loop-step-test.true c.step-item.is)
          ∙ c.loop-step.invariant.after;
    }

pub takes_plan-returns-clause-value : goal.takes_plan-returns-clause-value
unfolding fits
takes_plan-returns-clause-value t c =
    let catalog = c.args.catalog.now in
    let y = c.args.typed.now in
    sym (ap (λ ss. fits catalog y (steps (map step_of ss)) (known_of c.loop-step.known)) (drop_of_length-le c.as_slice-step-items.result.now (omega arith)))
    ∙ c.loop-step.invariant.fits
    ∙ ap (λ ss. fits catalog y (steps (map step_of ss)) (known_of c.args.known.now)) c.loop-step.invariant.items
    ∙ ap (λ p. fits catalog y p (known_of c.args.known.now)) (sym (plan_is c.args.plan.now))

pub takes_plan-returns-clause-bound : goal.takes_plan-returns-clause-bound
unfolding after
takes_plan-returns-clause-bound t c = λ e.
    sym (ap (λ ss. after (steps (map step_of ss)) (known_of c.loop-step.known)) (drop_of_length-le c.as_slice-step-items.result.now (omega arith)))
    ∙ c.loop-step.invariant.after
    ∙ ap (λ ss. after (steps (map step_of ss)) (known_of c.args.known.now)) c.loop-step.invariant.items
    ∙ ap (λ p. after p (known_of c.args.known.now)) (sym (plan_is c.args.plan.now))
