use Rattle.std.proofs.Common.{◌∙◌, ap}
use Rattle.gq_plan.specs.Plans.{step_of}
use Rattle.gq_steps.specs.Actions.{step_by}
use Rattle.gq_steps.specs.declared.action.Action.{Action}
use Rattle.gq_steps.proofs.Acting.{half_by}
use Rattle.gq_steps.proofs.plan_run.RunStep.new.Goals as goal

pub returns-clause-runs : goal.returns-clause-runs
returns-clause-runs c = ap (λ (a : Action). step_by a (step_of c.args.step.now)) c.action_of-action.ensures ∙ half_by c.args.half (step_of c.args.step.now)
