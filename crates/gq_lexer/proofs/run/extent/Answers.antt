use Rattle.std.proofs.Common.{arith, sym, ◌∙◌}
use Rattle.std.proofs.lemmas.Grind.{common_steps}
use Rattle.std.proofs.lemmas.List.{take_rest}
use Rattle.gq_lexer.proofs.Pieces.{size_last, size_next}
use Rattle.gq_lexer.proofs.run.extent.Goals as goal

pub pieces-preserved : goal.pieces-preserved
pieces-preserved c = (grind (arith, common_steps, c.in-Some.ensures.size.1), size_next _ c.args.rest.now _ c.pieces.size _ (take_rest c.args.rest.now c.pieces.size) c.in-Some.ensures.value c.in-Some.ensures.size.0 c.pieces.invariant.1)

pub returns-clause-size : goal.returns-clause-size
returns-clause-size c = size_last _ c.args.rest.now _ c.pieces.size (take_rest c.args.rest.now c.pieces.size) (sym c.in_default.is ∙ c.next_piece.ensures.value) c.pieces.invariant.1
