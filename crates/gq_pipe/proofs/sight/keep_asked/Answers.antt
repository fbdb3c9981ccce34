use Rattle.std.proofs.Common.{◌+◌}
use Rattle.gq_steps.specs.Levels.{step_at}
use Rattle.gq_steps.specs.Moves.{run_of}
use Rattle.gq_bits.specs.Places.{is_marked}
use Rattle.gq_pipe.proofs.Asking.{kept_on}
use Rattle.gq_pipe.proofs.sight.keep_asked.Goals as goal

pub returns-in-Some-clause-kept : goal.returns-in-Some-clause-kept
returns-in-Some-clause-kept c = λ in_y k on marked.
    kept_on (run_of c.args.plan_run.now) c.args.row.now c.args.node c.in-Some.test (c.args.low + k) (step_at (run_of c.args.plan_run.now) c.args.depth) (is_marked c.args.marks.now k) (is_marked c.keep_passed.new.marks k)
    in_y c.requires.node c.in-Some.ensures.is c.in-Some.ensures.alone on marked (c.keep_passed.ensures.kept k)
