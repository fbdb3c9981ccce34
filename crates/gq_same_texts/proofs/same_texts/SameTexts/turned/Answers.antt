use Rattle.std.proofs.Common.{length, ap, ◌∙◌}
use Rattle.gq_same_texts.specs.Same.{Dicts}
use Rattle.gq_same_texts.specs.steps.Codes.{code_in}
use Rattle.gq_same_texts.proofs.Coding.{turns_code, turns_past}
use Rattle.gq_same_texts.proofs.same_texts.SameTexts.turned.Goals as goal

pub returns-in-None : goal.returns-in-None
returns-in-None c =
    turns_past c.args.self.now c.args.cell c.code_in.result
    (c.code_in.ensures.value ∙ ap (λ n. code_in n c.args.cell) (c.len.ensures ∙ ap (λ (d : Dicts). length d.from) c.self.view_is)) c.in-None.is

pub returns-in-Some : goal.returns-in-Some
returns-in-Some c = λ text own at to.
    c.cell_of.ensures
    ∙ turns_code c.args.self.now c.args.cell c.code_in.result c.code.result c.in-Some.code
    (c.code_in.ensures.value ∙ ap (λ n. code_in n c.args.cell) (c.len.ensures ∙ ap (λ (d : Dicts). length d.from) c.self.view_is))
    c.in-Some.is c.code.ensures text own at to
