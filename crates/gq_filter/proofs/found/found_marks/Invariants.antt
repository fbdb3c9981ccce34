use Rattle.std.proofs.Common.{◌-◌}
use Rattle.gq_filter.proofs.Searching.{IsSearched}
use Rattle.gq_filter.proofs.found.found_marks.Given as goal

abbrev pub invariant-loop-from : goal.invariant-loop-from
invariant-loop-from l = IsSearched l.dict l.part l.low l.high l.code l.from l.marks

abbrev pub decreases-loop-from : goal.decreases-loop-from
decreases-loop-from l = l.end - l.from
