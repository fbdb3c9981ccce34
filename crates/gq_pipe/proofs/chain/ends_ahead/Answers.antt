use Rattle.std.proofs.Common.{Some, refl, sym, ap, ◌∙◌, subst, arith}
use Rattle.gq_steps.specs.Moves.{run_of}
use Rattle.gq_pipe.specs.steps.Ahead.{AreAhead}
use Rattle.gq_pipe.proofs.Telling.{put_there, same_again}
use Rattle.gq_pipe.proofs.chain.ends_ahead.Goals as goal

pub returns-then-is_due-clause-told : goal.returns-then-is_due-clause-told
returns-then-is_due-clause-told c = λ ss are. c.tell_next.ensures.told ss (subst (AreAhead (run_of c.args.plan_run.now) ss) (sym c.is_due.ensures) are)

pub returns-in-None-clause-told : goal.returns-in-None-clause-told
returns-in-None-clause-told c = λ ss are. subst (AreAhead (run_of c.args.plan_run.now) ss) (sym c.is_due.ensures) are

pub returns-in-None-told-clause-told : goal.returns-in-None-told-clause-told
returns-in-None-told-clause-told c = λ ss are.
    subst (AreAhead (run_of c.args.plan_run.now) ss)
    (sym (same_again c.is_due.new.aheads.items c.args.depth c.in-Some.told.now c.in-Some.told.now c.in-Some.ensures.value refl ∙ c.is_due.ensures)) are

pub returns-in-Some-told-clause-told : goal.returns-in-Some-told-clause-told
returns-in-Some-told-clause-told c = λ ss are.
    subst (AreAhead (run_of c.args.plan_run.now) ss)
    (sym (same_again c.is_due.new.aheads.items c.args.depth c.in-Some.told.now (Some c.ends_at.new.self) c.in-Some.ensures.value (ap Some c.ends_at.ensures.same ∙ sym c.in-Some-told.is) ∙ c.is_due.ensures)) are

pub returns-in-Some-told-clause-ends : goal.returns-in-Some-told-clause-ends
returns-in-Some-told-clause-ends c = λ on. (
  c.ends_at.new.self,
  put_there c.is_due.new.aheads.items c.args.depth (Some c.ends_at.new.self) (let low = c.in-Some.ensures.variant.0 refl in omega (arith, low, c.is_due.new.aheads.ok.0)),
  c.ends_at.ensures.ends on,
)
