use Rattle.gq_near.proofs.Marking.{HaveMarks}
use Rattle.gq_near.proofs.near_set.mark.Given as goal

abbrev pub invariant-loop-row : goal.invariant-loop-row
invariant-loop-row l = HaveMarks l.fn.rows l.row-index l.marked.items
