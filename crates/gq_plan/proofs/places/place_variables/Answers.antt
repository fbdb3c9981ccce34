use Rattle.std.proofs.Common.{◌≡◌, ◌∙◌, ◌+◌, ◌<◌, ap, sym, subst, ℕ, List, map, drop, get_or, length, arith}
use Rattle.std.proofs.lemmas.List.{drop_all}
use Rattle.std.specs.List.{AllByRecursion}
use Rattle.gq_plan.proofs.Each.{each_at}
use Rattle.gq_plan.proofs.FirstSteps.{first_of_rest}
use Rattle.gq_plan.proofs.Placing.{all_named}
use Rattle.gq_plan.proofs.StepEquations.{plan_is}
use Rattle.gq_plan.specs.Covers.{fits}
use Rattle.gq_plan.specs.Known.{none}
use Rattle.gq_plan.specs.Plans.{steps, step_of}
use Rattle.gq_plan.specs.Shapes.{Places, nowhere, places_of, place_step, places_after}
use Rattle.gq_plan.specs.declared.plan.Step as code
use Rattle.gq_plan.specs.steps.Places.{IsNamed}
use Rattle.gq_plan.proofs.places.place_variables.Goals as goal

-- the groups after steps, by the first of them
first : (p : Places) (xs : List code.Step) (i : ℕ) (x : code.Step) → i < length xs → x ≡ get_or xs i x
    → places_after (steps (map step_of (drop i xs))) p ≡ places_after (steps (map step_of (drop (i + 1) xs))) (place_step (step_of x) p)
unfolding places_after
first p xs i x h is = ap (λ ys. places_after (steps (map step_of ys)) p) (first_of_rest xs i x h is)

pub place-requires-clause-named : goal.place-requires-clause-named
place-requires-clause-named c =
    let y = c.args.typed.now in
    let p = c.args.plan.now in
    let named = all_named c.requires.catalog y c.requires.sound.nodes_fit c.requires.sound.rels_fit p.steps none (sym (ap (λ q. fits c.requires.catalog y q none) (plan_is p)) ∙ c.requires.fits) in
    each_at (λ s. IsNamed (step_of s)) c.as_slice-step-items.result.now c.loop-step.step-index c.step-item.result
    (subst (AllByRecursion (λ s. IsNamed (step_of s))) (sym c.loop-step.invariant.items) named) c.loop-step-test.true c.step-item.is

pub loop-step-preserved : goal.loop-step-preserved
loop-step-preserved c =
    let items = c.as_slice-step-items.result.now in
    let rest = steps (map step_of (drop (c.loop-step.step-index + 1) items)) in
    record {
      items = c.loop-step.invariant.items;
      few = omega (arith, c.loop-step.invariant.few, c.place.ensures.few);
      placed = ap (places_after rest) c.place.ensures.placed
          ∙ sym (first (places_of c.loop-step.places) items c.loop-step.step-index c.step-item.result c.loop-step-test.true c.step-item.is)
          ∙ c.loop-step.invariant.placed;
    }

pub returns : goal.returns
unfolding places_after
returns c =
    let items = c.as_slice-step-items.result.now in
    let p = places_of c.loop-step.places in
    sym (ap (λ ss. places_after (steps (map step_of ss)) p) (drop_all c.loop-step.step-index items (omega arith)))
    ∙ c.loop-step.invariant.placed ∙ ap (λ ss. places_after (steps (map step_of ss)) nowhere) c.loop-step.invariant.items
    ∙ ap (λ q. places_after q nowhere) (sym (plan_is c.args.plan.now))
