use Rattle.std.proofs.Common.{take}
use Rattle.std.specs.List.{AllZip}
use Rattle.gq_execute.specs.steps.Clauses.{IsPlannedClause}
use Rattle.gq_execute.proofs.clauses.clause_plans.Given as goal

abbrev pub invariant-parts : goal.invariant-parts
invariant-parts l = AllZip (IsPlannedClause l.order l.graph) (take l.part-index l.parts) l.plans
