use Rattle.gq_masks.proofs.Marking.{HavePart, StaysMarked}
use Rattle.gq_masks.proofs.mask.mark_piece.Given as goal

abbrev pub invariant-loop-place : goal.invariant-loop-place
invariant-loop-place l = record {
  part : HavePart l.fn.graph l.fn.table l.fn.direction l.fn.low l.place l.fn.chosen l.marked.pieces.items;
  stays : StaysMarked l.fn.marked.pieces.items l.marked.pieces.items;
}
