use Rattle.std.proofs.Common.{◌≡◌, ◌∙◌, ℕ, ◌+◌, ◌<◌, length, sym, ap₂, subst, arith}
use Rattle.gq_plan.specs.Plans.{step_of}
use Rattle.gq_homes.specs.steps.Housing.{AreHoused, CanHouse, housed, with_filling, build_in}
use Rattle.gq_steps.specs.Actions.{step_by}
use Rattle.gq_steps.specs.Levels.{step_at, known}
use Rattle.gq_steps.specs.Moves.{builds_in, run_of, steps_in, IsRun}
use Rattle.gq_steps.specs.declared.plan_run.PlanRun.{PlanRun}
use Rattle.gq_steps.proofs.Binding.{fits_at}
use Rattle.gq_homes.proofs.Homing.{built_at, can_house, housed_first, housed_more, makes_first}
use Rattle.gq_steps.proofs.Joined.{builds_many}
use Rattle.gq_steps.proofs.Standings.{tile_at}
use Rattle.gq_steps.proofs.Trying.{as_many_steps, step_is}
use Rattle.gq_homes.proofs.homes.house_group.Goals as goal

pub loop-step-init : goal.loop-step-init
loop-step-init c =
    let w = tile_at (run_of c.args.plan_run.now) 0 c.args.groups.now c.requires.tiles c.args.number c.requires.number in
    let some = w.some in
    let inside = w.inside in (
      omega arith,
      omega (arith, some),
      omega (arith, inside, as_many_steps c.args.plan_run.now),
      housed_first (run_of c.args.plan_run.now) c.requires.run c.args.groups.now c.args.number c.args.housing.now.fillings.items c.args.housing.now.homes c.requires.homes,
    )

step_low : (k : PlanRun) (d : ℕ) → d < length (steps_in k) → d < length (run_of k).steps
step_low k d low = omega (arith, low, as_many_steps k)

build_low : (k : PlanRun) → IsRun (run_of k) → (d : ℕ) → d < length (steps_in k) → d < length (builds_in k)
build_low k run d low = let many = builds_many k.graph.now k.typed.now (run_of k).steps (builds_in k) run.builds in let inside = step_low k d low in omega (arith, inside, many)

pub build_at-build-requires : goal.build_at-build-requires
build_at-build-requires c =
    let below = c.loop-step-test.true in
    let inside = c.loop-step.invariant.2 in
    build_low c.args.plan_run.now c.requires.run c.loop-step.step (omega (arith, below, inside))

pub house-requires : goal.house-requires
house-requires c =
    let k = c.args.plan_run.now in
    let d = c.loop-step.step in
    let old = c.loop-step.invariant.3 in
    let below = c.loop-step-test.true in
    let inside = c.loop-step.invariant.2 in
    let low : d < length (steps_in k) = omega (arith, below, inside) in
    let there = step_is k d low c.step.result.now c.step.result.now c.action.result c.step.ensures c.action.ensures in
    subst (λ o. CanHouse o c.loop-step.housing.homes (step_by c.action.result (step_of c.step.result.now))) (sym c.build_at-build.ensures)
    (subst (CanHouse (build_in (run_of k) d) c.loop-step.housing.homes) there
    (can_house (run_of k) c.requires.run c.loop-step.housing.homes old.homes.node_count old.homes.rel_count (known (run_of k) d) c.loop-step.housing.fillings.items (build_in (run_of k) d) (step_at (run_of k) d)
    (fits_at (run_of k) c.requires.run d (step_low k d low)) (built_at (run_of k) c.requires.run c.args.groups.now c.args.number d (step_low k d low))))

pub loop-step-preserved : goal.loop-step-preserved
loop-step-preserved c =
    let k = c.args.plan_run.now in
    let c' = run_of k in
    let d = c.loop-step.step in
    let above = c.loop-step.invariant.0 in
    let below = c.loop-step-test.true in
    let inside = c.loop-step.invariant.2 in
    let low : d < length (steps_in k) = omega (arith, below, inside) in
    let i = c.args.number in
    let fs = c.loop-step.housing.fillings.items in
    let h = c.loop-step.housing.homes in
    let there = step_is k d low c.step.result.now c.step.result.now c.action.result c.step.ensures c.action.ensures in
    let build : build_in c' d ≡ _ = sym c.build_at-build.ensures in
    let same : housed (build_in c' d) i (length fs) (step_at c' d) h ≡ c.house.new.housing.homes =
    ap₂ (λ o s. housed o i (length fs) s h) build there ∙ sym c.in_ok-house.ensures.homes in
    let more : with_filling (build_in c' d) i d (step_at c' d) fs ≡ c.house.new.housing.fillings.items =
    ap₂ (λ o s. with_filling o i d s fs) build there ∙ sym c.in_ok-house.ensures.fillings in (
      omega (arith, above),
      omega (arith, below),
      inside,
      subst (λ h. AreHoused c' c.args.groups.now i (d + 1) c.house.new.housing.fillings.items h) same
          (subst (λ fs. AreHoused c' c.args.groups.now i (d + 1) fs (housed (build_in c' d) i (length c.loop-step.housing.fillings.items) (step_at c' d) h)) more
          (housed_more c' c.requires.run c.args.groups.now i d fs h c.requires.number (step_low k d low)
          (λ makes. makes_first c' c.args.groups.now i d c.requires.tiles c.requires.cut c.requires.number above below makes) c.loop-step.invariant.3)),
    )

pub returns : goal.returns
returns c =
    let high = c.loop-step.invariant.1 in
    let over = c.loop-step-test.false in
    subst (λ n. AreHoused (run_of c.args.plan_run.now) c.args.groups.now c.args.number n c.loop-step.housing.fillings.items c.loop-step.housing.homes) (omega (arith, high, over)) c.loop-step.invariant.3
