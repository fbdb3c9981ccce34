-- Texts as they are kept: side by side in one list of bytes, which is cut where each of them ends.
use Rattle.std.specs.Prelude.{ℕ, ◌≡◌, ◌<◌, ◌≤◌, List, ◌∷◌, length, map, slice_index, slice_range}
use Rattle.std.specs.List.{range_with_len}
use Rattle.std.specs.Str.{IsUtf8}

-- the text at a place, from the end of the one before it to its own end
abbrev pub text_in : List ℕ → List ℕ → ℕ → List ℕ
text_in bytes ends place = slice_range bytes (slice_index (0 ∷ ends) place) (slice_index ends place)

-- the texts, one for each end
abbrev pub texts_in : List ℕ → List ℕ → List (List ℕ)
texts_in bytes ends = map (text_in bytes ends) (range_with_len 0 (length ends))

-- each text ends within the bytes and not before it begins, is UTF-8, and the last ends where they end
pub record IsCut (bytes ends : List ℕ) : Type 0 where
  pub ordered : (place : ℕ) → place < length ends → slice_index (0 ∷ ends) place ≤ slice_index ends place
  pub within : (place : ℕ) → place < length ends → slice_index ends place ≤ length bytes
  pub full : slice_index (0 ∷ ends) (length ends) ≡ length bytes
  pub utf8 : (place : ℕ) → place < length ends → IsUtf8 (text_in bytes ends place)
