use Rattle.std.proofs.Common.{◌≡◌, ◌+◌, ◌/◌, ℕ, length, take, get_or, false, vec_len}
use Rattle.gq_bits.specs.steps.Bits.{bit_of}
use Rattle.gq_bits.proofs.ranked.words_of.Given as goal

abbrev pub invariant-loop-place : goal.invariant-loop-place
invariant-loop-place l = record {
  size : vec_len l.words ≡ length l.bits / 64 + 1;
  filled : (k : ℕ) → bit_of l.words.items k ≡ get_or (take l.place l.bits) k false;
}
