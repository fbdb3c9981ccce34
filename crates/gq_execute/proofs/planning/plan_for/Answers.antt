use Rattle.gq_execute.proofs.Costing.{costed_plan}
use Rattle.gq_execute.proofs.planning.plan_for.Goals as goal

pub returns-in_ok-least-in-Least-clause-plan : goal.returns-in_ok-least-in-Least-clause-plan
returns-in_ok-least-in-Least-clause-plan c =
    let made = c.in_ok-least-in-Least in
    let same = c.catalog-in-Least.ensures.value in
    rw c.in-Least.is (costed_plan c.args.graph.now.catalog c.args.typed.now c.args.stats.now made.field-0 c.costed.result c.costed.ensures.plan c.costed.ensures.costs (rw same at made.ensures.plan) (rw same at made.ensures.orders))
