use Rattle.std.proofs.Common.{◌-◌, ◌<◌, ◌≤◌, ℕ, length}
use Rattle.std.specs.List.Sorted.{IsNonDecreasing}
use Rattle.std.specs.Prelude.{slice_index_or}
use Rattle.gq_index.proofs.pieces.keys_before.Given as goal

abbrev pub invariant-loop-low : goal.invariant-loop-low
invariant-loop-low l = record {
  order : l.low ≤ l.high;
  within : l.high ≤ length l.keys;
  less : IsNonDecreasing l.keys → (k : ℕ) → k < l.low → slice_index_or l.keys k 0 < l.key;
  more : IsNonDecreasing l.keys → (k : ℕ) → l.high ≤ k → k < length l.keys → l.key ≤ slice_index_or l.keys k 0;
}

abbrev pub decreases-loop-low : goal.decreases-loop-low
decreases-loop-low l = l.high - l.low
