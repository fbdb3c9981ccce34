use Rattle.std.proofs.Common.{◌≡◌, take, flat_map}
use Rattle.gq_io.specs.Putting.{Put}
use Rattle.gq_render.specs.Pieces.{piece_text}
use Rattle.gq_render.proofs.pieces.put_pieces.Given as goal

abbrev pub invariant-loop-piece : goal.invariant-loop-piece
invariant-loop-piece g l =
    Put (g.O.Sink.taken l.initial.out) (g.O.Sink.taken l.out) l.initial.batch l.batch (flat_map piece_text (take l.piece-index l.pieces))
    × (g.O.Sink.faults l.out ≡ g.O.Sink.faults l.initial.out)
