use Rattle.std.proofs.Common.{arith}
use Rattle.std.proofs.lemmas.List.{length-map}
use Rattle.std.specs.Option.{option_copied}
use Rattle.gq_steps.specs.Moves.{run_of}
use Rattle.gq_steps.specs.declared.action.Action.TheVariants as act
use Rattle.gq_steps.proofs.Acting.{acts}
use Rattle.gq_steps.proofs.Trying.{low_step}
use Rattle.gq_pipe.proofs.ByValue.{build_there}
use Rattle.gq_pipe.proofs.Telling.{steps_long}
use Rattle.gq_pipe.proofs.value_joins.build_of.Goals as goal

pub action-requires : goal.action-requires
action-requires c = steps_long c.args.plan_run.now c.args.depth c.len.result c.len.ensures c.if-depth-len.false

pub build_at-requires : goal.build_at-requires
build_at-requires c = omega (arith, c.len-2.ensures, c.if-depth-len-2.false, c.args.plan_run.now.builds.ok.0, length-map c.args.plan_run.now.builds.items option_copied)

pub returns-in-Join : goal.returns-in-Join
returns-in-Join c =
    let low = steps_long c.args.plan_run.now c.args.depth c.len.result c.len.ensures c.if-depth-len.false in
    let j = acts c.args.plan_run.now c.args.depth c.action.result act.Join c.action.ensures c.in-Join.is in
    build_there (run_of c.args.plan_run.now) c.requires c.args.depth (low_step c.args.plan_run.now c.args.depth low) j.0 j.1 c.build_at.result j.2 c.build_at.ensures
