-- Pairs of which each source has one at most.
use Rattle.std.specs.Prelude.{ℕ, ◌≡◌, ◌≢◌, ◌<◌, List, Option, Some, None, length, slice_index, slice_index_or}

-- a pair by its number and its target
pub record Pair : Type 0 where
  pub number : ℕ
  pub target : ℕ

-- the pair of a source
abbrev pub pair_at : List (Option Pair) → ℕ → Option Pair
pair_at pairs v = slice_index_or pairs v None

-- a pair that leaves v
pub record Leaves (from to : List ℕ) (v : ℕ) (p : Pair) : Type 0 where
  pub within : p.number < length from
  pub source : slice_index from p.number ≡ v
  pub target : p.target ≡ slice_index to p.number

-- the pair that leaves v, or none where no pair does
abbrev pub IsPairOf : List ℕ → List ℕ → ℕ → Option Pair → Type 0
IsPairOf from to v None = (k : ℕ) → k < length from → slice_index from k ≢ v
IsPairOf from to v (Some p) = Leaves from to v p

-- no two pairs have one source
abbrev pub AreOnce : List ℕ → Type 0
AreOnce from = (j k : ℕ) → j < k → k < length from → slice_index from j ≢ slice_index from k

-- the first place whose source stood before
pub record IsSecond (from : List ℕ) (at : ℕ) : Type 0 where
  pub within : at < length from
  pub stood : (j : ℕ) × (j < at) × (slice_index from j ≡ slice_index from at)
  pub once_before : (j k : ℕ) → j < k → k < at → slice_index from j ≢ slice_index from k
