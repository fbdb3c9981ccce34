use Rattle.std.proofs.Common.{◌+◌, ◌++◌, drop, flat_map, ap, ◌∙◌}
use Rattle.gq_base.proofs.ListFacts.{flat_map_next, flat_map_split}
use Rattle.gq_render.specs.Pieces.{piece_text}
use Rattle.gq_render.proofs.Sequence.{next_broke, put_then}
use Rattle.gq_render.proofs.pieces.put_pieces.Goals as goal

pub returns-in_err-put_piece-clause-bytes : goal.returns-in_err-put_piece-clause-bytes
returns-in_err-put_piece-clause-bytes g c =
    let rest = flat_map piece_text (drop (c.loop-piece.piece-index + 1) c.args.pieces.now) in
    next_broke _ _ _ _ _ _ _ _ _ _ rest _ _ _ _ c.loop-piece.invariant.0 c.put_piece.ensures.bytes c.in_err-put_piece.was c.from_residual.ensures.1
    (ap (λ l. l ++ rest) (flat_map_next piece_text c.args.pieces.now _ _ _ c.loop-piece-test.true c.piece-item.is) ∙ flat_map_split piece_text c.args.pieces.now (c.loop-piece.piece-index + 1))

pub loop-piece-preserved : goal.loop-piece-preserved
loop-piece-preserved g c = (
  put_then _ _ _ _ _ _ _ _ _ c.loop-piece.invariant.0 c.in_ok-put_piece.ensures.bytes (flat_map_next piece_text c.args.pieces.now _ _ _ c.loop-piece-test.true c.piece-item.is),
  c.in_ok-put_piece.ensures.cause.kept ∙ c.loop-piece.invariant.1,
)
