use Rattle.std.proofs.Common.{ap, sym, ◌∙◌, Some}
use Rattle.gq_base.proofs.Texts.{text_of-none, text_of-text}
use Rattle.gq_base.proofs.word.read_text.Goals as goal

pub returns-in-Ok : goal.returns-in-Ok
returns-in-Ok c = ap Some c.in-Ok.ensures.cases.0 ∙ sym (text_of-text _ c.in-Ok.ensures.cases.1)

pub returns-in-Err : goal.returns-in-Err
returns-in-Err c = sym (text_of-none _ c.in-Err.ensures.cases.0)
