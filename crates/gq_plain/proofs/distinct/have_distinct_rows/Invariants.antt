use Rattle.gq_plain.proofs.DistinctSteps.{Marked}
use Rattle.gq_plain.proofs.distinct.have_distinct_rows.Given as goal

abbrev pub invariant-loop-number : goal.invariant-loop-number
invariant-loop-number l = Marked l.end l.rels l.fn.count l.number l.marks.items
