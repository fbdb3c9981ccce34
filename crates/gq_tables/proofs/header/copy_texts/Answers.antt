use Rattle.std.proofs.Common.{◌∙◌, sym, ap}
use Rattle.gq_tables.proofs.Texts.{all_copied, one_copied}
use Rattle.gq_tables.proofs.header.copy_texts.Goals as goal

pub loop-text-preserved : goal.loop-text-preserved
loop-text-preserved c =
    let (row, copied) = c.loop-text.invariant in
    let steps = c.in-Some.ensures.steps in
    let next = rw row at (sym steps.1) in
    (ap (λ r. r.now) steps.0 ∙ row, rw (steps.2, c.in_ok-push.ensures.pushed, c.in_ok-new.ensures) (one_copied _ _ _ copied c.in-Some.text.now next))

pub returns : goal.returns
returns c =
    let (row, copied) = c.loop-text.invariant in
    let end = rw row at (sym c.in-None.ensures.steps.1) in
    all_copied _ _ _ copied end
