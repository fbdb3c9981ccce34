use Rattle.std.proofs.Common.{ap, ◌∙◌}
use Rattle.std.specs.Str.{chars}
use Rattle.gq_lexer.proofs.Lexing.{lexed_bytes, lexed_text}
use Rattle.gq_lexer.proofs.blank.is_blank.Goals as goal

pub returns-in_default : goal.returns-in_default
returns-in_default c =
    let fails = lexed_bytes c.args.text.now c.in_default.ensures.cases.0 in
    (λ f. cc f, λ blank. cc (fails, blank))

pub returns : goal.returns
returns c =
    let same = c.deref.ensures.value ∙ c.in_ok-chars.ensures ∙ ap chars c.in-Ok.ensures.cases.0 in
    rw (lexed_text c.args.text.now c.in-Ok.ensures.cases.1) (rw same at c.are_blank.ensures)
