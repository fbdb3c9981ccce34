use Rattle.gq_filter.proofs.Rowwise.{IsKeeping}
use Rattle.gq_filter.proofs.row_test.RowTest.keep_each.Given as goal

abbrev pub invariant-loop-place : goal.invariant-loop-place
invariant-loop-place l = IsKeeping l.fn.self l.fn.variable l.fn.rows l.fn.row l.fn.marks l.place l.row l.marks
