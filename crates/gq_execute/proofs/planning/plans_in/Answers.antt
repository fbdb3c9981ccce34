use Rattle.std.proofs.Common.{◌∙◌, ap, length, subst, sym}
use Rattle.std.proofs.lemmas.List.FromFn.{length-map-range_with_len}
use Rattle.gq_order.specs.declared.stats.Stats.{Stats}
use Rattle.gq_plan.specs.Covers.{Covers}
use Rattle.gq_plan.specs.Plans.{plan_of}
use Rattle.gq_execute.proofs.Covering.{planned_more, zip_more}
use Rattle.gq_execute.specs.Planned.{IsPlanIn, Means}
use Rattle.gq_plan.specs.Soundness.{IsSound}
use Rattle.gq_law_plans.proofs.Wholes.{plans_mean}
use Rattle.gq_execute.specs.steps.Clauses.{IsPlanned}
use Rattle.gq_execute.proofs.planning.plans_in.Goals as goal

pub plan_for-requires-clause-nodes : goal.plan_for-requires-clause-nodes
plan_for-requires-clause-nodes c = ap (λ (s : Stats). length s.nodes) c.requires.stats ∙ length-map-range_with_len _ 0 _

pub plan_for-requires-clause-rels : goal.plan_for-requires-clause-rels
plan_for-requires-clause-rels c = ap (λ (s : Stats). length s.rels) c.requires.stats ∙ length-map-range_with_len _ 0 _

pub alternatives-preserved : goal.alternatives-preserved
alternatives-preserved c =
    let i = c.alternatives.invariant in
    let g = c.args.graph.now in
    let ys = c.args.alternatives.now in
    let low = c.alternatives-test.true in
    let is = c.typed-item.is in
    let p = c.in_ok-planned.ensures in
    let made = c.in_ok-planned.planned in
    let planned = subst (λ (s : Stats). IsPlanIn c.args.order g.catalog s c.typed-item.result (plan_of made.plan) made.costs) c.requires.stats p.plan in
    let means = plans_mean g c.typed-item.result (plan_of made.plan) c.stands_valid.ensures
    (subst (IsSound g.catalog) (sym is) (c.requires.sound c.alternatives.typed-index c.typed-item.result low)) p.covers in
    record {
      plans = planned_more c.args.order g ys _ _ _ _ _ _ _ _ i.plans low is c.in_ok-push.ensures.pushed c.in_ok-push-2.ensures.pushed planned;
      each = zip_more (IsPlanned c.args.order g) plan_of ys _ _ _ _ _ i.each low is c.in_ok-push.ensures.pushed
          (record { costs = made.costs; planned = planned; covers = p.covers; means = means; parts = p.parts; alone = p.alone });
      mean = zip_more (Means g) plan_of ys _ _ _ _ _ i.mean low is c.in_ok-push.ensures.pushed means;
      covers = zip_more (Covers g.catalog) plan_of ys _ _ _ _ _ i.covers low is c.in_ok-push.ensures.pushed p.covers;
    }
