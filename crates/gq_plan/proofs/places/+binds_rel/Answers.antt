use Rattle.std.proofs.Common.{◌≡◌, ◌+◌, ◌∙◌, ◌<◌, ap, sym, true, cond, ℕ, List, map, drop, get_or, length, arith}
use Rattle.std.proofs.lemmas.List.{drop_all}
use Rattle.gq_plan.proofs.FirstSteps.{first_of_rest}
use Rattle.gq_plan.proofs.StepEquations.{plan_is}
use Rattle.gq_plan.specs.Plans.{steps, step_of}
use Rattle.gq_plan.specs.declared.plan.Step as code
use Rattle.gq_plan.specs.steps.Places.{binds_rel, step_binds_rel}
use Rattle.gq_plan.proofs.places.+binds_rel.Goals as goal

-- what steps bind, by the first of them
first : (rel : ℕ) (xs : List code.Step) (i : ℕ) (x : code.Step) → i < length xs → x ≡ get_or xs i x
    → binds_rel rel (steps (map step_of (drop i xs))) ≡ cond (step_binds_rel rel (step_of x)) true (binds_rel rel (steps (map step_of (drop (i + 1) xs))))
unfolding binds_rel
first rel xs i x h is = ap (λ ys. binds_rel rel (steps (map step_of ys))) (first_of_rest xs i x h is)

pub binds_rel-returns-then-step_binds_rel : goal.binds_rel-returns-then-step_binds_rel
binds_rel-returns-then-step_binds_rel t c =
    let items = c.as_slice-step-items.result.now in
    let rel = c.args.rel in
    let more = binds_rel rel (steps (map step_of (drop (c.loop-step.step-index + 1) items))) in
    sym
    (ap (binds_rel rel) (plan_is c.args.plan.now) ∙ ap (λ ss. binds_rel rel (steps (map step_of ss))) (sym c.loop-step.invariant.items) ∙ sym c.loop-step.invariant.rest
    ∙ first rel items c.loop-step.step-index c.step-item.result c.loop-step-test.true c.step-item.is
    ∙ ap (λ b. cond b true more) (sym c.if-step_binds_rel.ensures))

pub binds_rel-loop-step-preserved : goal.binds_rel-loop-step-preserved
binds_rel-loop-step-preserved t c =
    let items = c.as_slice-step-items.result.now in
    let rel = c.args.rel in
    let more = binds_rel rel (steps (map step_of (drop (c.loop-step.step-index + 1) items))) in
    record {
      items = c.loop-step.invariant.items;
      rest = ap (λ b. cond b true more) c.if-step_binds_rel.ensures ∙ sym (first rel items c.loop-step.step-index c.step-item.result c.loop-step-test.true c.step-item.is)
          ∙ c.loop-step.invariant.rest;
    }

pub binds_rel-returns : goal.binds_rel-returns
unfolding binds_rel
binds_rel-returns t c =
    let items = c.as_slice-step-items.result.now in
    let rel = c.args.rel in
    sym
    (ap (binds_rel rel) (plan_is c.args.plan.now) ∙ ap (λ ss. binds_rel rel (steps (map step_of ss))) (sym c.loop-step.invariant.items) ∙ sym c.loop-step.invariant.rest
    ∙ ap (λ ss. binds_rel rel (steps (map step_of ss))) (drop_all c.loop-step.step-index items (omega arith)))
