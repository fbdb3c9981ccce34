use Rattle.std.proofs.Common.{[], refl, sym, ◌∙◌, arith}
use Rattle.std.proofs.Math.ListN.{drop_of_length-le}
use Rattle.std.proofs.lemmas.Grind.{common_steps}
use Rattle.std.proofs.lemmas.List.{take_rest}
use Rattle.gq_lexer.proofs.Lexing.{blank_next, fails_not_blank, lexed_ends, lexed_stops, token_not_blank}
use Rattle.gq_lexer.proofs.blank.are_blank.Goals as goal

pub returns-in_default : goal.returns-in_default
returns-in_default c =
    let fails = lexed_stops c.args.chars.now _ c.lexemes.place c.lexemes.invariant.skipped.0 [] (take_rest c.args.chars.now c.lexemes.place) (sym c.in_default.is ∙ c.in_ok-lexeme.ensures.value)
    (grind (arith, common_steps)) c.lexemes.invariant.skipped.1 in
    (λ f. cc f, λ blank. absurd (fails_not_blank c.args.chars.now _ fails blank))

pub returns-then-is_some : goal.returns-then-is_some
returns-then-is_some c =
    let sizes = rw c.in-Some.is at c.in_ok-lexeme.ensures.size in (
      λ f. cc f,
      λ blank. absurd (token_not_blank c.args.chars.now _ c.lexemes.place c.lexemes.invariant.skipped.0 c.in-Some.lexeme (take_rest c.args.chars.now c.lexemes.place)
          (sym c.in-Some.is ∙ c.in_ok-lexeme.ensures.value) sizes.0 (sym c.if-is_some.ensures) c.lexemes.invariant.skipped.1 blank),
    )

pub lexemes-preserved : goal.lexemes-preserved
lexemes-preserved c =
    let sizes = rw c.in-Some.is at c.in_ok-lexeme.ensures.size in
    record {
      within = grind (arith, common_steps, sizes.1);
      skipped = blank_next c.args.chars.now _ c.lexemes.place c.lexemes.invariant.skipped.0 c.in-Some.lexeme (take_rest c.args.chars.now c.lexemes.place)
          (sym c.in-Some.is ∙ c.in_ok-lexeme.ensures.value) sizes.0 (sym c.if-is_some.ensures) c.lexemes.invariant.skipped.1;
    }

pub returns : goal.returns
returns c =
    let none = lexed_ends c.args.chars.now c.lexemes.place c.lexemes.invariant.skipped.0 [] (drop_of_length-le c.args.chars.now c.lexemes-test.false) c.lexemes.invariant.skipped.1 in
    (λ t. none, λ e. refl)
