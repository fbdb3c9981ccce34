use Rattle.std.proofs.Common.{Some, refl, sym, ap, ◌∙◌}
use Rattle.gq_pipe.proofs.Telling.{same_again}
use Rattle.gq_pipe.proofs.chain.is_due.Goals as goal

pub returns-in-None-told : goal.returns-in-None-told
returns-in-None-told c = same_again c.args.aheads.now.items c.args.depth c.in-Some.told.now c.in-Some.told.now c.in-Some.ensures.value refl

pub returns-in-Some-told : goal.returns-in-Some-told
returns-in-Some-told c =
    same_again c.args.aheads.now.items c.args.depth c.in-Some.told.now (Some c.is_due.new.self) c.in-Some.ensures.value (ap Some c.is_due.ensures ∙ sym c.in-Some-told.is)
