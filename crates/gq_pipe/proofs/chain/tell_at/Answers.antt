use Rattle.std.proofs.Common.{refl, arith}
use Rattle.gq_pipe.proofs.Telling.{same_again, told_more, told_same, told_there}
use Rattle.gq_pipe.proofs.chain.tell_at.Goals as goal

pub returns-in-None : goal.returns-in-None
returns-in-None c = told_same c.args.chosen.now c.args.depth c.args.aheads.now.items c.args.aheads.now.items refl

pub returns-in-None-told : goal.returns-in-None-told
returns-in-None-told c =
    told_same c.args.chosen.now c.args.depth c.args.aheads.now.items _ (same_again c.args.aheads.now.items c.args.depth c.in-Some.told.now c.in-Some.told.now c.in-Some.ensures.value refl)

pub returns-in-Some-told : goal.returns-in-Some-told
returns-in-Some-told c =
    told_more c.args.chosen.now c.args.aheads.now.items c.args.depth c.in-Some-told.ahead c.tell.new.self
    (told_there c.args.aheads.now.items c.args.depth c.in-Some.told.now c.in-Some-told.ahead (let low = c.in-Some.ensures.variant.0 refl in omega (arith, low, c.args.aheads.now.ok.0)) c.in-Some.ensures.value c.in-Some-told.is)
    c.tell.ensures
