use Rattle.std.proofs.Common.{◌≡◌, ◌∙◌, ◌+◌, ◌++◌, ◌<◌, ap, ap₂, sym, ℕ, Bool, Option, Some, None, List, map, drop, get_or, length, length-append, append_assoc, append-nil, arith}
use Rattle.std.proofs.lemmas.List.{drop_all}
use Rattle.gq_plan.proofs.FirstSteps.{first_of_rest}
use Rattle.gq_plan.proofs.StepEquations.{plan_is}
use Rattle.gq_plan.specs.Plans.{plan_of, steps, step_of}
use Rattle.gq_plan.specs.Shapes.{all_flat, places, form_of, next_group, shape_from, shape_with}
use Rattle.gq_plan.specs.Soundness.{has_number}
use Rattle.gq_plan.specs.declared.plan.Step as code
use Rattle.gq_plan.specs.declared.shaping.Form.{Form}
use Rattle.gq_plan.specs.declared.shaping.GroupShape.{GroupShape}
use Rattle.gq_plan.proofs.shaping.shape.Goals as goal

-- the groups of steps, by the first of them
first : (flat : ℕ → Bool) (n : ℕ) (xs : List code.Step) (i : ℕ) (x : code.Step) → i < length xs → x ≡ get_or xs i x
    → shape_from flat n (steps (map step_of (drop i xs)))
    ≡ shape_with flat n (form_of (step_of x)) ++ shape_from flat (next_group n (form_of (step_of x))) (steps (map step_of (drop (i + 1) xs)))
unfolding shape_from
first flat n xs i x h is = ap (λ ys. shape_from flat n (steps (map step_of ys))) (first_of_rest xs i x h is)

longer : (flat : ℕ → Bool) (all : List GroupShape) (form : Option Form) → length (all ++ shape_with flat (length all) form) ≡ next_group (length all) form
longer flat all None = ap length (append-nil all)
longer flat all (Some form) = length-append all _

-- with the group of one more step
more : (flat : ℕ → Bool) (xs : List code.Step) (i : ℕ) (x : code.Step) (all after : List GroupShape) → i < length xs → x ≡ get_or xs i x
    → after ≡ all ++ shape_with flat (length all) (form_of (step_of x))
    → after ++ shape_from flat (length after) (steps (map step_of (drop (i + 1) xs))) ≡ all ++ shape_from flat (length all) (steps (map step_of (drop i xs)))
more flat xs i x all after h is e =
    let form = form_of (step_of x) in
    let rest = steps (map step_of (drop (i + 1) xs)) in
    ap (λ gs. gs ++ shape_from flat (length gs) rest) e
    ∙ ap (λ n. (all ++ shape_with flat (length all) form) ++ shape_from flat n rest) (longer flat all form)
    ∙ append_assoc all (shape_with flat (length all) form) (shape_from flat (next_group (length all) form) rest)
    ∙ ap (λ gs. all ++ gs) (sym (first flat (length all) xs i x h is))

pub loop-step-preserved : goal.loop-step-preserved
loop-step-preserved c =
    let items = c.as_slice-step-items.result.now in
    record {
      items = c.loop-step.invariant.items;
      shapes = more (has_number c.as_slice-flat.result.now) items c.loop-step.step-index c.step-item.result c.loop-step.shapes c.push_shape.new.shapes
          c.loop-step-test.true c.step-item.is c.in_ok-push_shape.ensures
          ∙ c.loop-step.invariant.shapes;
    }

pub returns : goal.returns
unfolding shape_from
returns c =
    let items = c.as_slice-step-items.result.now in
    let y = c.args.typed.now in
    let flat = has_number c.as_slice-flat.result.now in
    let all : c.as_slice-flat.result.now ≡ all_flat y (places (plan_of c.args.plan.now)) (plan_of c.args.plan.now) = c.as_slice-flat.ensures ∙ c.in_ok-flat.ensures
    ∙ ap (λ w. all_flat y w (plan_of c.args.plan.now)) c.place_variables-places.ensures in
    let rest = ap (λ ss. shape_from flat (length c.loop-step.shapes) (steps (map step_of ss))) (drop_all c.loop-step.step-index items (omega arith)) in
    sym (append-nil c.loop-step.shapes) ∙ ap (λ gs. c.loop-step.shapes ++ gs) (sym rest) ∙ c.loop-step.invariant.shapes
    ∙ ap (λ ss. shape_from flat 0 (steps (map step_of ss))) c.loop-step.invariant.items
    ∙ ap₂ (λ gs q. shape_from (has_number gs) 0 q) all (sym (plan_is c.args.plan.now))
