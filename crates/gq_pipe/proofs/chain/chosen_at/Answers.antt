use Rattle.std.proofs.Common.{subst}
use Rattle.gq_steps.specs.Moves.{run_of}
use Rattle.gq_pipe.specs.declared.ahead.Ahead.TheVariants.{Far}
use Rattle.gq_pipe.specs.declared.sight.Sight.{Sight}
use Rattle.gq_pipe.specs.steps.Sights.{IsNext}
use Rattle.gq_pipe.proofs.Telling.{next_open, one_far}
use Rattle.gq_pipe.proofs.chain.chosen_at.Goals as goal

pub returns-in-Some-clause-next : goal.returns-in-Some-clause-next
returns-in-Some-clause-next c = λ ss are t there.
    subst (λ (u : Sight). IsNext (run_of c.args.plan_run.now) ss u c.keep_open.new.chosen) (one_far _ c.in-Some.sight.now t c.in-Some.ensures there)
    (next_open (run_of c.args.plan_run.now) ss c.in-Some.sight.now c.passed-chosen.result c.keep_open.new.chosen
    (c.passed-chosen.ensures.passed (are c.args.depth (Far c.in-Some.sight.now) c.in-Some.ensures).seen.far)
    (c.keep_open.ensures (run_of c.args.plan_run.now) ss are))
