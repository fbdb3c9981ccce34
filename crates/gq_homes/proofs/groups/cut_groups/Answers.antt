use Rattle.std.proofs.Common.{◌≡◌, ◌≢◌, ◌+◌, ◌<◌, ℕ, zero, suc, refl, List, [], ◌∷◌, ◌++◌, length, ◌∙◌, sym, ap, subst, arith}
use Rattle.std.proofs.lemmas.List.{length-map}
use Rattle.gq_homes.specs.Cuts.{IsCutTo, flag}
use Rattle.gq_homes.specs.steps.Cutting.{IsCutting}
use Rattle.gq_steps.specs.Moves.{run_of, run_step}
use Rattle.gq_steps.specs.declared.group_steps.GroupSteps.{GroupSteps}
use Rattle.gq_steps.proofs.Trying.{as_many_steps}
use Rattle.gq_homes.proofs.Cutting.{cut_on, cutting_from, cutting_next, cutting_more}
use Rattle.gq_homes.proofs.groups.cut_groups.Goals as goal
use Rattle.gq_homes.proofs.groups.cut_groups.Goals.{After-len-count, In-loop-end, then-starts_group+in_ok-push, else-starts_group}

some_steps : (n long : ℕ) → n ≢ 0 → n ≡ long → 0 < long
some_steps zero long h e = absurd (h refl)
some_steps (suc n) long h e = omega (arith, e)

-- as many steps run as were counted
counted : (c : After-len-count) → c.len-count.result ≡ length (run_of c.args.plan_run.now).steps
counted c = c.len-count.ensures ∙ c.args.plan_run.now.steps.ok.0 ∙ sym (length-map c.args.plan_run.now.steps.items run_step)

pub returns-then-count-eq0 : goal.returns-then-count-eq0
returns-then-count-eq0 c =
    let none = counted (goal.at.returns-then-count-eq0 c).After-len-count in
    subst (λ (gs : List GroupSteps). IsCutTo (run_of c.args.plan_run.now) c.args.flat.now gs (length (run_of c.args.plan_run.now).steps)) (sym c.new-groups.ensures.items)
    (record { tiles = omega (arith, c.if-count-eq0.true, none); cut = tt; flags = λ i low. absurd (omega (arith, low)); actions = λ i low. absurd (omega (arith, low)); cuts = λ i low. absurd (omega (arith, low)) })

pub loop-end-init : goal.loop-end-init
loop-end-init c =
    let some = some_steps c.len-count.result (length (run_of c.args.plan_run.now).steps) c.if-count-eq0.false (counted (goal.at.loop-end-init c).After-len-count) in
    subst (λ (gs : List GroupSteps). IsCutting (run_of c.args.plan_run.now) c.args.flat.now gs 0 1) (sym c.new-groups.ensures.items)
    (cutting_from (run_of c.args.plan_run.now) c.args.flat.now some (c.requires.begins (omega (arith, some, as_many_steps c.args.plan_run.now))))

pub starts_group-requires : goal.starts_group-requires
starts_group-requires c =
    let low = c.loop-end-test.true in
    omega (arith, low, counted (goal.at.starts_group-requires c).After-len-count, as_many_steps c.args.plan_run.now)

pub loop-end-preserved : goal.loop-end-preserved
loop-end-preserved c =
    let k = run_of c.args.plan_run.now in
    let low : c.loop-end.end < length k.steps = (let h = c.loop-end-test.true in omega (arith, h, counted (goal.at.loop-end-preserved c).After-len-count)) in
    elim c.if-starts_group.branch [
      | then-starts_group+in_ok-push w ↦
          (let items : c.if-starts_group.groups.items ≡ c.loop-end.groups.items ++ w.group_of.result ∷ [] = ap (λ gs. gs.items) w.groups-is ∙ w.in_ok-push.ensures.items in
          subst (λ f. IsCutting k c.args.flat.now c.if-starts_group.groups.items f (c.loop-end.end + 1)) (sym w.first-is)
          (subst (λ (gs : List GroupSteps). IsCutting k c.args.flat.now gs c.loop-end.end (c.loop-end.end + 1)) (sym items)
          (cutting_next k c.args.flat.now c.loop-end.groups.items c.loop-end.first c.loop-end.end w.flag-flat.result w.group_of.result w.group_of.ensures (w.flag-flat.ensures ∙ ap (flag c.args.flat.now) (w.len.ensures ∙ c.loop-end.groups.ok.0)) c.loop-end.invariant low
          (sym c.starts_group.ensures ∙ w.if-starts_group.true))))
      | else-starts_group w ↦
          subst (λ f. IsCutting k c.args.flat.now c.if-starts_group.groups.items f (c.loop-end.end + 1)) (sym w.first-is)
          (subst (λ (gs : List GroupSteps). IsCutting k c.args.flat.now gs c.loop-end.first (c.loop-end.end + 1)) (ap (λ gs. gs.items) (sym w.groups-is))
          (cutting_more k c.args.flat.now c.loop-end.groups.items c.loop-end.first c.loop-end.end c.loop-end.invariant low (sym c.starts_group.ensures ∙ w.if-starts_group.false)))
    ]

pub group_of-requires-clause-some : goal.group_of-requires-clause-some
group_of-requires-clause-some c = c.loop-end.invariant.low

pub group_of-requires-clause-inside : goal.group_of-requires-clause-inside
group_of-requires-clause-inside c = let high = c.loop-end.invariant.high in omega (arith, high, as_many_steps c.args.plan_run.now)

pub group_of-requires-2-clause-some : goal.group_of-requires-2-clause-some
group_of-requires-2-clause-some c = c.loop-end.invariant.low

pub group_of-requires-2-clause-inside : goal.group_of-requires-2-clause-inside
group_of-requires-2-clause-inside c = let high = c.loop-end.invariant.high in omega (arith, high, as_many_steps c.args.plan_run.now)

pub returns : goal.returns
returns c =
    let k = run_of c.args.plan_run.now in
    let high = c.loop-end.invariant.high in
    let last : c.loop-end.end ≡ length k.steps = (let h = c.loop-end-test.false in omega (arith, h, high, counted (goal.at.returns c).After-len-count)) in
    subst (λ (gs : List GroupSteps). IsCutTo k c.args.flat.now gs (length k.steps)) (sym c.in_ok-push-2.ensures.items)
    (subst (IsCutTo k c.args.flat.now (c.loop-end.groups.items ++ c.group_of-2.result ∷ [])) last
    (cut_on k c.args.flat.now c.loop-end.groups.items c.loop-end.first c.loop-end.end c.flag-flat-2.result c.group_of-2.result c.group_of-2.ensures (c.flag-flat-2.ensures ∙ ap (flag c.args.flat.now) (c.len-2.ensures ∙ c.loop-end.groups.ok.0)) c.loop-end.invariant))
