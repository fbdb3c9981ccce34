use Rattle.std.proofs.Common.{Err, sym, ap, ◌∙◌, arith}
use Rattle.std.specs.Str.{chars}
use Rattle.gq_lexer.specs.Tokens.{width}
use Rattle.gq_lexer.proofs.Lexing.{lexed_bytes, lexed_text}
use Rattle.gq_lexer.proofs.Widths.{width-chars}
use Rattle.gq_lexer.proofs.scan.lex.Goals as goal

pub returns-in-Err-clause-outcome : goal.returns-in-Err-clause-outcome
returns-in-Err-clause-outcome c = lexed_bytes c.args.text.now c.in-Err.ensures.cases.0 ∙ ap Err (sym (c.valid_up_to.ensures ∙ c.in-Err.ensures.valid_len))

pub lex_chars-requires : goal.lex_chars-requires
lex_chars-requires c =
    let same = c.deref.ensures.value ∙ c.in_ok-chars.ensures ∙ ap chars c.in-Ok.ensures.cases.0 in
    omega (arith, ap width same ∙ width-chars c.args.text.now c.in-Ok.ensures.cases.1, c.requires)

pub returns-clause-outcome : goal.returns-clause-outcome
returns-clause-outcome c =
    let same = c.deref.ensures.value ∙ c.in_ok-chars.ensures ∙ ap chars c.in-Ok.ensures.cases.0 in
    rw (lexed_text c.args.text.now c.in-Ok.ensures.cases.1) (rw same at c.lex_chars.ensures.outcome)

pub returns-clause-order : goal.returns-clause-order
returns-clause-order c =
    let same = c.deref.ensures.value ∙ c.in_ok-chars.ensures ∙ ap chars c.in-Ok.ensures.cases.0 in
    rw (← width-chars c.args.text.now c.in-Ok.ensures.cases.1) (rw same at c.lex_chars.ensures.order)
