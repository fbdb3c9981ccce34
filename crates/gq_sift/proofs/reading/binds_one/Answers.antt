use Rattle.std.proofs.Common.{arith}
use Rattle.std.proofs.lemmas.List.{length-map}
use Rattle.std.specs.Option.{option_copied}
use Rattle.gq_steps.specs.declared.plan_run.RunStep.{RunStep}
use Rattle.gq_sift.proofs.reading.binds_one.Goals as goal

pub action-requires : goal.action-requires
action-requires c = omega (arith, c.if-depth-len.false, c.len.ensures, c.args.plan_run.now.steps.ok.0, length-map c.args.plan_run.now.steps.items (λ (r : RunStep). r.step.now))

pub step-requires : goal.step-requires
step-requires c = omega (arith, c.if-depth-len.false, c.len.ensures, c.args.plan_run.now.steps.ok.0, length-map c.args.plan_run.now.steps.items (λ (r : RunStep). r.step.now))

pub build_at-requires : goal.build_at-requires
build_at-requires c = omega (arith, c.if-depth-len-2.false, c.len-else-depth-len.ensures, c.args.plan_run.now.builds.ok.0, length-map c.args.plan_run.now.builds.items option_copied)
