use Rattle.std.proofs.Common.{◌≡◌, ◌≤◌, ◌^◌, take}
use Rattle.gq_marks.specs.Places.{total_of}
use Rattle.gq_marks.proofs.visited.total_rows.Given as goal

abbrev pub invariant-loop-size : goal.invariant-loop-size
invariant-loop-size l = record {
  total : l.total ≡ total_of (take l.size-index l.sizes);
  few : l.total ≤ 2 ^ 32;
}
