use Rattle.std.proofs.Common.{sym, subst}
use Rattle.gq_steps.specs.Moves.{run_of}
use Rattle.gq_sift.specs.declared.cuts.Ask.{Ask}
use Rattle.gq_sift.specs.steps.Asks.{IsAsked}
use Rattle.gq_sift.proofs.cuts.is_asked.Goals as goal

pub returns-in-Conditions : goal.returns-in-Conditions
returns-in-Conditions c = λ on. subst (λ (a : Ask). IsAsked (run_of c.args.plan_run.now) a c.args.depth) (sym c.in-Conditions.is) (c.is_condition.ensures on)

pub returns-in-RowTests : goal.returns-in-RowTests
returns-in-RowTests c = λ on. subst (λ (a : Ask). IsAsked (run_of c.args.plan_run.now) a c.args.depth) (sym c.in-RowTests.is) (c.do_rows_decide.ensures on)

pub returns-in-ListTests : goal.returns-in-ListTests
returns-in-ListTests c = λ on. subst (λ (a : Ask). IsAsked (run_of c.args.plan_run.now) a c.args.depth) (sym c.in-ListTests.is) (c.is_list_test.ensures on)

pub returns-in-Placed : goal.returns-in-Placed
returns-in-Placed c = λ on. subst (λ (a : Ask). IsAsked (run_of c.args.plan_run.now) a c.args.depth) (sym c.in-Placed.is) tt
