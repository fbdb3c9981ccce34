use Rattle.gq_masks.proofs.Marking.{HaveMarks, StaysMarked}
use Rattle.gq_masks.proofs.marked.mark_all.Given as goal

abbrev pub invariant-loop-row : goal.invariant-loop-row
invariant-loop-row l = record {
  marks : HaveMarks l.fn.rows l.row-index l.pieces.items;
  stays : StaysMarked l.fn.pieces.items l.pieces.items;
}
