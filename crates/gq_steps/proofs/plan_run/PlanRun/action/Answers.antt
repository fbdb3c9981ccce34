use Rattle.std.proofs.Common.{◌∙◌, ◌<◌, length, sym, ap, arith}
use Rattle.std.proofs.lemmas.List.{length-map}
use Rattle.gq_plan.specs.Plans.{step_of}
use Rattle.gq_steps.specs.Actions.{action_of}
use Rattle.gq_steps.specs.Moves.{run_step}
use Rattle.gq_steps.specs.declared.plan_run.RunStep.{RunStep}
use Rattle.gq_steps.proofs.Acting.{acts_by}
use Rattle.gq_steps.proofs.Trying.{get_mapped}
use Rattle.gq_steps.proofs.plan_run.PlanRun.action.Goals as goal

pub returns : goal.returns
returns c =
    let steps = c.args.self.now.steps.items in
    let found = c.index-step.result.now in
    let low : c.args.depth < length steps = omega (arith, c.requires, length-map steps (λ (r : RunStep). r.step.now)) in
    sym (acts_by found.action (step_of found.step.now))
    ∙ ap action_of (sym (get_mapped steps c.args.depth found low ∙ ap run_step (sym c.index-step.ensures)))
