use Rattle.std.proofs.Common.{◌≡◌, ◌*◌, ◌<◌, ℕ, get_or, vec_len, count_by}
use Rattle.gq_bits.specs.steps.Bits.{bits_of}
use Rattle.gq_bits.proofs.ranked.sums_of.Given as goal

abbrev pub invariant-loop-word : goal.invariant-loop-word
invariant-loop-word l = record {
  size : vec_len l.sums ≡ l.word-index;
  before_is : l.before ≡ count_by (λ on. on) (bits_of (64 * l.word-index) l.words);
  ones : (k : ℕ) → k < l.word-index → get_or l.sums.items k 0 ≡ count_by (λ on. on) (bits_of (64 * k) l.words);
}
