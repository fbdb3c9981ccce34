use Rattle.std.proofs.Common.{◌∙◌, sym, ap}
use Rattle.gq_steps.specs.Levels.{step_at}
use Rattle.gq_steps.specs.Moves.{run_of}
use Rattle.gq_steps.specs.declared.action.Action.TheVariants as act
use Rattle.gq_steps.specs.Tests.{pair_of}
use Rattle.gq_steps.proofs.Acting.{acts}
use Rattle.gq_chains.proofs.Acted.{no_pair}
use Rattle.gq_chains.proofs.asked.pair_at.Goals as goal

pub returns-in-Differ : goal.returns-in-Differ
returns-in-Differ c = sym (ap pair_of (acts c.args.plan_run.now c.args.depth c.action.result (act.Differ c.in-Differ.pair) c.action.ensures c.in-Differ.is))

pub returns-in_default : goal.returns-in_default
returns-in_default c = sym (no_pair (step_at (run_of c.args.plan_run.now) c.args.depth) (λ i is. c.in_default.not-Differ i (c.action.ensures ∙ is)))
