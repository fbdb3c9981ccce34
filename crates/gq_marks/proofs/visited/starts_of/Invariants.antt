use Rattle.std.proofs.Common.{◌≡◌, ◌++◌, take, drop}
use Rattle.gq_marks.specs.Places.{starts_from, total_of}
use Rattle.gq_marks.proofs.visited.starts_of.Given as goal

abbrev pub invariant-loop-size : goal.invariant-loop-size
invariant-loop-size l = record {
  total : l.total ≡ total_of (take l.size-index l.sizes);
  rest : l.starts.items ++ starts_from l.total (drop l.size-index l.sizes) ≡ starts_from 0 l.sizes;
}
