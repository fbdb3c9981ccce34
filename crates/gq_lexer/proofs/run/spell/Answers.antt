use Rattle.std.proofs.Common.{arith, sym, ◌∙◌}
use Rattle.std.proofs.lemmas.Grind.{common_steps}
use Rattle.std.proofs.lemmas.List.{take_rest}
use Rattle.gq_lexer.proofs.Pieces.{size_last, size_next, text_last, text_next}
use Rattle.gq_lexer.proofs.run.spell.Goals as goal

pub pieces-preserved : goal.pieces-preserved
pieces-preserved c =
    let rest = take_rest c.args.rest.now c.pieces.size in
    record {
      within = grind (arith, common_steps, c.in-Some.ensures.size.1);
      size = size_next _ c.args.rest.now _ c.pieces.size _ rest c.in-Some.ensures.value c.in-Some.ensures.size.0 c.pieces.invariant.size;
      text = text_next _ c.args.rest.now _ c.pieces.size _ _ _ rest c.in-Some.ensures.value c.in-Some.ensures.size.0 c.pieces.invariant.text c.in_ok-push.ensures.bytes;
    }

pub returns-clause-text : goal.returns-clause-text
returns-clause-text c =
    c.from_string.ensures ∙ text_last _ c.args.rest.now _ c.pieces.size _ (take_rest c.args.rest.now c.pieces.size) (sym c.in_default.is ∙ c.next_piece.ensures.value) c.pieces.invariant.text

pub returns-clause-size : goal.returns-clause-size
returns-clause-size c = size_last _ c.args.rest.now _ c.pieces.size (take_rest c.args.rest.now c.pieces.size) (sym c.in_default.is ∙ c.next_piece.ensures.value) c.pieces.invariant.size
