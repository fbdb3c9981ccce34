use Rattle.std.proofs.Common.{◌≡◌, ◌≢◌, ◌<◌, ◌≤◌, ℕ, length, true, false}
use Rattle.std.specs.Prelude.{slice_index_or}
use Rattle.gq_bits.specs.Places.{is_marked}
use Rattle.gq_bits.specs.declared.TheConstants.{VECTOR}
use Rattle.gq_index.specs.Numbered.{IsOneOf, IsRising, key_of}
use Rattle.gq_index.proofs.among.marks_from.Given as goal

abbrev pub invariant-loop-place : goal.invariant-loop-place
invariant-loop-place l = record {
  whole : length l.marks ≡ VECTOR;
  on : (k : ℕ) → is_marked l.marks k ≡ true → (k < length l.rows) × IsOneOf l.keys (key_of l.number (slice_index_or l.rows k 0));
  off : IsRising l.rows → (k i : ℕ) → k < length l.rows → is_marked l.marks k ≡ false → l.low ≤ i → i < l.place → slice_index_or l.keys i 0 ≢ key_of l.number (slice_index_or l.rows k 0);
}
