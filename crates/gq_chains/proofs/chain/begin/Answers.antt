use Rattle.std.proofs.Common.{sym, subst}
use Rattle.gq_chains.specs.declared.chain.Beginning.{Beginning}
use Rattle.gq_chains.specs.steps.Chains.{CanBegin, HasBegun}
use Rattle.gq_steps.specs.Moves.{run_of}
use Rattle.gq_chains.proofs.chain.begin.Goals as goal

pub scan-requires-clause-can : goal.scan-requires-clause-can
scan-requires-clause-can c = subst (CanBegin (run_of c.args.plan_run.now) c.args.row.now) c.in-Rows.is c.requires.can

pub returns-in-Rows : goal.returns-in-Rows
returns-in-Rows c = subst (λ (b : Beginning). HasBegun (run_of c.args.plan_run.now) b c.args.place c.args.row.now c.scan.result c.scan.new.row) (sym c.in-Rows.is) c.scan.ensures

pub reach-requires : goal.reach-requires
reach-requires c = subst (CanBegin (run_of c.args.plan_run.now) c.args.row.now) c.in-List.is c.requires.can

pub returns-in-List : goal.returns-in-List
returns-in-List c = subst (λ (b : Beginning). HasBegun (run_of c.args.plan_run.now) b c.args.place c.args.row.now c.reach.result c.reach.new.row) (sym c.in-List.is) c.reach.ensures
