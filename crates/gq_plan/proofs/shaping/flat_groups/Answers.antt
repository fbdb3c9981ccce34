use Rattle.std.proofs.Common.{◌≡◌, ◌∙◌, ◌+◌, ◌++◌, ◌<◌, ap, sym, ℕ, List, map, drop, get_or, length, append_assoc, append-nil, arith}
use Rattle.std.proofs.lemmas.List.{drop_all}
use Rattle.gq_plan.proofs.FirstSteps.{first_of_rest}
use Rattle.gq_plan.proofs.StepEquations.{plan_is}
use Rattle.gq_plan.specs.Plans.{steps, step_of}
use Rattle.gq_plan.specs.Shapes.{Places, all_flat, flat_by, places_of}
use Rattle.gq_plan.specs.declared.plan.Step as code
use Rattle.gq_plan.specs.declared.typed.Typed.{Typed}
use Rattle.gq_plan.proofs.shaping.flat_groups.Goals as goal

-- the flat groups because of steps, by the first of them
first : (y : Typed) (p : Places) (xs : List code.Step) (i : ℕ) (x : code.Step) → i < length xs → x ≡ get_or xs i x
    → all_flat y p (steps (map step_of (drop i xs))) ≡ flat_by y p (step_of x) ++ all_flat y p (steps (map step_of (drop (i + 1) xs)))
unfolding all_flat
first y p xs i x h is = ap (λ ys. all_flat y p (steps (map step_of ys))) (first_of_rest xs i x h is)

pub loop-step-preserved : goal.loop-step-preserved
loop-step-preserved c =
    let items = c.as_slice-step-items.result.now in
    let y = c.args.typed.now in
    let p = places_of c.args.places in
    let rest = all_flat y p (steps (map step_of (drop (c.loop-step.step-index + 1) items))) in
    record {
      items = c.loop-step.invariant.items;
      groups = ap (λ gs. gs ++ rest) c.in_ok-extend.ensures.extended ∙ append_assoc c.loop-step.groups c.as_slice.result.now rest
          ∙ ap (λ gs. c.loop-step.groups ++ (gs ++ rest)) (c.as_slice.ensures ∙ c.in_ok-own.ensures)
          ∙ ap (λ gs. c.loop-step.groups ++ gs) (sym (first y p items c.loop-step.step-index c.step-item.result c.loop-step-test.true c.step-item.is))
          ∙ c.loop-step.invariant.groups;
    }

pub returns : goal.returns
unfolding all_flat
returns c =
    let items = c.as_slice-step-items.result.now in
    let y = c.args.typed.now in
    let p = places_of c.args.places in
    let rest = ap (λ ss. all_flat y p (steps (map step_of ss))) (drop_all c.loop-step.step-index items (omega arith)) in
    sym (append-nil c.loop-step.groups) ∙ ap (λ gs. c.loop-step.groups ++ gs) (sym rest) ∙ c.loop-step.invariant.groups
    ∙ ap (λ ss. all_flat y p (steps (map step_of ss))) c.loop-step.invariant.items
    ∙ ap (all_flat y p) (sym (plan_is c.args.plan.now))
