-- Bits in words of 64, the least bit of a word first.
use Rattle.std.specs.Prelude.{ℕ, ◌≡◌, ◌+◌, ◌*◌, ◌/◌, ◌%◌, ◌<◌, List, Bool, map, slice_index, ◌==◌, length, count_by}
use Rattle.std.specs.Int.{bit_at}
use Rattle.std.specs.List.{range_with_len}

-- the bit of a place
abbrev pub bit_of : List ℕ → ℕ → Bool
bit_of words place = bit_at (slice_index words (place / 64)) (place % 64) == 1

-- the bits of the first places
abbrev pub bits_of : ℕ → List ℕ → List Bool
bits_of count words = map (bit_of words) (range_with_len 0 count)

-- words that hold so many bits, with the ones before each word
pub record IsRanked (count : ℕ) (words sums : List ℕ) : Type 0 where
  pub enough : length words ≡ count / 64 + 1
  pub paired : length sums ≡ length words
  pub ones : (k : ℕ) → k < length words → slice_index sums k ≡ count_by (λ on. on) (bits_of (64 * k) words)
