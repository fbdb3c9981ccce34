use Rattle.std.proofs.Common.{map, take}
use Rattle.std.specs.List.{AllZip}
use Rattle.gq_plan.specs.Covers.{Covers}
use Rattle.gq_plan.specs.Plans.{plan_of}
use Rattle.gq_execute.specs.Planned.{ArePlansIn, Means}
use Rattle.gq_execute.specs.steps.Clauses.{IsPlanned}
use Rattle.gq_execute.proofs.planning.plans_in.Given as goal

abbrev pub invariant-alternatives : goal.invariant-alternatives
invariant-alternatives l = record {
  plans : ArePlansIn l.order l.graph (take l.typed-index l.alternatives) (map plan_of l.plans) l.costs;
  each : AllZip (IsPlanned l.order l.graph) (take l.typed-index l.alternatives) (map plan_of l.plans);
  mean : AllZip (Means l.graph) (take l.typed-index l.alternatives) (map plan_of l.plans);
  covers : AllZip (Covers l.graph.catalog) (take l.typed-index l.alternatives) (map plan_of l.plans);
}
