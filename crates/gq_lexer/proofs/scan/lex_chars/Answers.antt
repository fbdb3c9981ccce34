use Rattle.std.proofs.Common.{◌+◌, ◌<◌, refl, sym, subst, ◌∙◌, arith}
use Rattle.std.proofs.Math.ListN.{drop_of_length-le}
use Rattle.std.proofs.lemmas.Grind.{common_steps}
use Rattle.std.proofs.lemmas.List.{take_rest}
use Rattle.gq_lexer.specs.Tokens.{InOrder}
use Rattle.gq_lexer.proofs.Lexing.{in_order_next, in_order_to, lexed_ends, lexed_next, lexed_stops}
use Rattle.gq_lexer.proofs.Widths.{width_behind, width_front, width_some}
use Rattle.gq_lexer.proofs.scan.lex_chars.Goals as goal

pub returns-in_default-clause-outcome : goal.returns-in_default-clause-outcome
returns-in_default-clause-outcome c =
    lexed_stops c.args.chars.now _ c.lexemes.place c.lexemes.at _ (take_rest c.args.chars.now c.lexemes.place) (sym c.in_default.is ∙ c.in_ok-lexeme.ensures.value)
    (grind (arith, common_steps)) c.lexemes.invariant.outcome

pub width-requires : goal.width-requires
width-requires c =
    let behind = width_behind c.args.chars.now _ c.lexemes.place c.in-Some.lexeme.size _ _ (take_rest c.args.chars.now c.lexemes.place) refl refl in
    omega (arith, behind, width_front c.args.chars.now (c.lexemes.place + c.in-Some.lexeme.size), c.requires)

pub overflow_add-end : goal.overflow_add-end
overflow_add-end c =
    let behind = width_behind c.args.chars.now _ c.lexemes.place c.in-Some.lexeme.size _ _ (take_rest c.args.chars.now c.lexemes.place) c.lexemes.invariant.bytes c.width.ensures in
    omega (arith, behind, width_front c.args.chars.now (c.lexemes.place + c.in-Some.lexeme.size), c.requires)

pub lexemes-preserved : goal.lexemes-preserved
lexemes-preserved c =
    let sizes = rw c.in-Some.is at c.in_ok-lexeme.ensures.size in
    let rest = take_rest c.args.chars.now c.lexemes.place in
    let some : c.lexemes.at < c.lexemes.at + c.width.result = omega (arith, c.width.ensures, width_some _ c.in-Some.lexeme.size sizes.0 sizes.1) in
    record {
      within = grind (arith, common_steps, sizes.1);
      bytes = width_behind c.args.chars.now _ c.lexemes.place c.in-Some.lexeme.size _ _ rest c.lexemes.invariant.bytes c.width.ensures;
      outcome = lexed_next c.args.chars.now _ c.lexemes.place c.lexemes.at _ c.in-Some.lexeme c.lexemes.tokens _ rest (sym c.in-Some.is ∙ c.in_ok-lexeme.ensures.value) sizes.0
          c.width.ensures c.lexemes.invariant.outcome c.in_ok-push_token.ensures;
      order = subst (InOrder 0 (c.lexemes.at + c.width.result)) (sym c.in_ok-push_token.ensures)
          (in_order_next 0 c.lexemes.at _ c.lexemes.tokens c.in-Some.lexeme.kind some c.lexemes.invariant.order);
    }

pub returns-clause-outcome : goal.returns-clause-outcome
returns-clause-outcome c =
    lexed_ends c.args.chars.now c.lexemes.place c.lexemes.at _ (drop_of_length-le c.args.chars.now c.lexemes-test.false) c.lexemes.invariant.outcome

pub returns-clause-order : goal.returns-clause-order
returns-clause-order c =
    in_order_to 0 _ _ c.lexemes.tokens (omega (arith, c.lexemes.invariant.bytes, width_front c.args.chars.now c.lexemes.place)) c.lexemes.invariant.order
