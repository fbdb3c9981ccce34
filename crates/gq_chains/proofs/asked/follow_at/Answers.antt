use Rattle.std.proofs.Common.{◌∙◌, sym, ap}
use Rattle.gq_steps.specs.Levels.{step_at}
use Rattle.gq_steps.specs.Moves.{run_of}
use Rattle.gq_steps.specs.declared.action.Action.TheVariants as act
use Rattle.gq_steps.specs.Tests.{follow_of}
use Rattle.gq_steps.proofs.Acting.{acts}
use Rattle.gq_chains.proofs.Reached.{no_follow}
use Rattle.gq_chains.proofs.asked.follow_at.Goals as goal

pub returns-in-List : goal.returns-in-List
returns-in-List c = sym (ap follow_of (acts c.args.plan_run.now c.args.depth c.action.result (act.List c.in-List.follow) c.action.ensures c.in-List.is))

pub returns-in-Column : goal.returns-in-Column
returns-in-Column c = sym (ap follow_of (acts c.args.plan_run.now c.args.depth c.action.result (act.Column c.in-Column.follow) c.action.ensures c.in-Column.is))

pub returns-in_default : goal.returns-in_default
returns-in_default c =
    sym (no_follow (step_at (run_of c.args.plan_run.now) c.args.depth) (λ f is. c.in_default.not-List f (c.action.ensures ∙ is)) (λ f is. c.in_default.not-Column f (c.action.ensures ∙ is)))
