use Rattle.std.proofs.Common.{◌≡◌, ◌*◌, ℕ, length}
use Rattle.std.specs.Prelude.{nat_lt}
use Rattle.gq_bits.specs.steps.Bits.{bit_of}
use Rattle.gq_bits.proofs.vector_marks.Marks.first.Given as goal

abbrev pub invariant-loop-index : goal.invariant-loop-index
invariant-loop-index l = record {
  size : length l.words ≡ length l.initial.words;
  below : (k : ℕ) → bit_of l.words k ≡ nat_lt k (64 * l.index);
}
