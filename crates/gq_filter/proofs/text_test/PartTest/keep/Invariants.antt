use Rattle.gq_filter.specs.Rows.{row_in}
use Rattle.gq_filter.specs.steps.Texts.{row_passes}
use Rattle.gq_filter.proofs.Trying.{IsTried}
use Rattle.gq_filter.proofs.text_test.PartTest.keep.Given as goal

abbrev pub invariant-loop-place : goal.invariant-loop-place
invariant-loop-place l = IsTried (λ k. row_passes l.fn.self (row_in l.fn.rows k)) l.fn.marks l.place l.marks
