use Rattle.std.proofs.Common.{◌-◌, ◌<◌, ◌≤◌, ℕ, length}
use Rattle.std.specs.Prelude.{slice_index_or}
use Rattle.gq_index.specs.Numbered.{IsRising, key_of}
use Rattle.gq_index.proofs.among.rows_searched.Given as goal

abbrev pub invariant-loop-low : goal.invariant-loop-low
invariant-loop-low l = record {
  order : l.low ≤ l.high;
  within : l.high ≤ length l.rows;
  less : IsRising l.rows → (k : ℕ) → k < l.low → key_of l.number (slice_index_or l.rows k 0) < l.key;
  more : IsRising l.rows → (k : ℕ) → l.high ≤ k → k < length l.rows → l.key ≤ key_of l.number (slice_index_or l.rows k 0);
}

abbrev pub decreases-loop-low : goal.decreases-loop-low
decreases-loop-low l = l.high - l.low
