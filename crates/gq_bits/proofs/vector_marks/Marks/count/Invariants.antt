use Rattle.std.proofs.Common.{◌≡◌, ◌≤◌, ◌<◌, ◌^◌, ℕ, ◌*◌, take, get_or}
use Rattle.std.specs.Prelude.{count_ones}
use Rattle.std.specs.List.{sum_by}
use Rattle.gq_bits.proofs.vector_marks.Marks.count.Given as goal

abbrev pub invariant-loop-index : goal.invariant-loop-index
invariant-loop-index l = record {
  sum_is : l.all ≡ sum_by count_ones (take l.index l.self-inside.words);
  few : l.all ≤ 64 * l.index;
  fit : (i : ℕ) → i < l.index → get_or l.self-inside.words i 0 < 2 ^ 64;
}
