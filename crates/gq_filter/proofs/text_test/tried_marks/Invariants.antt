use Rattle.gq_filter.proofs.Codes.{AreTried}
use Rattle.gq_filter.proofs.text_test.tried_marks.Given as goal

abbrev pub invariant-loop-place : goal.invariant-loop-place
invariant-loop-place l = AreTried l.part l.dict l.low l.place l.marks
