use Rattle.std.proofs.Common.{◌<◌, length, map, subst, sym}
use Rattle.std.specs.List.{All, AllZip}
use Rattle.gq_plan.specs.Plans.{plan_of}
use Rattle.gq_plan.specs.Soundness.{IsSound}
use Rattle.gq_plan.specs.declared.typed.Typed.{Typed}
use Rattle.gq_outer.specs.Placed.{IsPlaced}
use Rattle.gq_execute.specs.steps.Clauses.{IsPlanned, IsPlannedClause}
use Rattle.gq_execute.proofs.Covering.{zip_next}
use Rattle.gq_execute.proofs.clauses.clause_plans.Goals as goal

pub parts-init : goal.parts-init
parts-init c = rw c.new-plans.ensures tt

pub plans_in-requires-clause-sound : goal.plans_in-requires-clause-sound
plans_in-requires-clause-sound c =
    let catalog = c.args.graph.now.catalog in
    let placed = subst (IsPlaced c.args.shape.nodes c.args.shape.rels catalog) (sym c.part-item.is) (c.requires.placed c.parts.part-index c.part-item.result c.parts-test.true) in
    subst (All (IsSound catalog)) (sym c.as_slice-alternatives.ensures) placed.sound

pub plans_in-requires-clause-begins : goal.plans_in-requires-clause-begins
plans_in-requires-clause-begins c =
    let catalog = c.args.graph.now.catalog in
    let placed = subst (IsPlaced c.args.shape.nodes c.args.shape.rels catalog) (sym c.part-item.is) (c.requires.placed c.parts.part-index c.part-item.result c.parts-test.true) in
    subst (All (λ (y : Typed). 0 < length y.nodes)) (sym c.as_slice-alternatives.ensures) placed.begins

pub parts-preserved : goal.parts-preserved
parts-preserved c =
    let g = c.args.graph.now in
    let order = c.args.order in
    let made = c.in_ok-planned.planned in
    let each = subst (λ ys. AllZip (IsPlanned order g) ys (map plan_of made.plans)) c.as_slice-alternatives.ensures c.in_ok-planned.ensures.each in
    zip_next (IsPlannedClause order g) c.args.parts.now c.parts.plans c.push.new.self c.parts.part-index c.part-item.result made.plans c.parts.invariant c.parts-test.true c.part-item.is c.in_ok-push.ensures.pushed
    (record { each = each })
