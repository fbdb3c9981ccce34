use Rattle.std.proofs.Common.{◌∙◌, sym, ap}
use Rattle.gq_steps.specs.Levels.{step_at}
use Rattle.gq_steps.specs.Moves.{run_of}
use Rattle.gq_steps.specs.declared.action.Action.TheVariants as act
use Rattle.gq_steps.specs.Tests.{test_of}
use Rattle.gq_steps.proofs.Acting.{acts}
use Rattle.gq_chains.proofs.Acted.{no_test}
use Rattle.gq_chains.proofs.asked.test_at.Goals as goal

pub returns-in-Test : goal.returns-in-Test
returns-in-Test c = sym (ap test_of (acts c.args.plan_run.now c.args.depth c.action.result (act.Test c.in-Test.test) c.action.ensures c.in-Test.is))

pub returns-in_default : goal.returns-in_default
returns-in_default c = sym (no_test (step_at (run_of c.args.plan_run.now) c.args.depth) (λ i is. c.in_default.not-Test i (c.action.ensures ∙ is)))
