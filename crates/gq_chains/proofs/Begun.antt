-- A group that is told to be a chain is one, where its first step begins one.
use Rattle.std.proofs.Common.{◌≡◌, Option, Some, None, subst}
use Rattle.std.specs.Prelude.{IfSome}
use Rattle.gq_chains.specs.declared.chain.Beginning.{Beginning}
use Rattle.gq_chains.specs.steps.Chains.{BeginsBy, IsChain}
use Rattle.gq_chains.proofs.Reached.{begins_by}
use Rattle.gq_steps.specs.Keeps.{IsRange}
use Rattle.gq_steps.specs.Moves.{run_of}
use Rattle.gq_steps.specs.Tests.{IsCut}
use Rattle.gq_steps.specs.declared.cut.Cut.TheVariants as cut
use Rattle.gq_steps.specs.declared.group_steps.GroupSteps.{GroupSteps}
use Rattle.gq_steps.specs.declared.plan_run.PlanRun.{PlanRun}

pub chain_by : (k : PlanRun) (group : GroupSteps) → IsRange (run_of k) group → group.cut ≡ cut.Chain → (o : Option Beginning) → IfSome o (BeginsBy group.action) → IfSome o (IsChain (run_of k) group)
chain_by k group range is None h = h
chain_by k group range is (Some b) h = record {
  begins = begins_by k group.first group.action b range.action h;
  goes_on = subst (IsCut (run_of k) group.first group.end) is range.cut;
}
