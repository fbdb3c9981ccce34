use Rattle.std.proofs.Common.{List, Option, subst}
use Rattle.gq_steps.specs.Moves.{run_of}
use Rattle.gq_pipe.specs.declared.ahead.Ahead.{Ahead}
use Rattle.gq_pipe.specs.steps.Ahead.{AreNext}
use Rattle.gq_pipe.proofs.Telling.{stay_told}
use Rattle.gq_pipe.proofs.chain.tell_next.Goals as goal

pub returns-in-None-clause-told : goal.returns-in-None-clause-told
returns-in-None-clause-told c = λ ss are. are

pub returns-in-Some-clause-told : goal.returns-in-Some-clause-told
returns-in-Some-clause-told c =
    stay_told (run_of c.args.plan_run.now) c.in-Some.chosen c.last_open-last.result c.args.aheads.now.items c.tell_at.new.aheads.items
    (subst (λ (l : List (Option Ahead)). AreNext (run_of c.args.plan_run.now) l c.last_open-last.result c.in-Some.chosen) c.as_slice-2.ensures.value c.in-Some.ensures.next) c.tell_at.ensures
