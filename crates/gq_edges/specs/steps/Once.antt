-- Pairs as two columns of numbers.
use Rattle.std.specs.Prelude.{ℕ, ◌≡◌, ◌-◌, ◌^◌, ◌<◌, ◌==◌, if◌then◌else◌, List, [], ◌∷◌, Option, Some, None, length}
use Rattle.gq_edges.specs.Once.{Pair}

-- the pairs of the sources; the largest number of 32 bits says that a source has none
abbrev pub pairs_of : List ℕ → List ℕ → List (Option Pair)
pairs_of [] targets = []
pairs_of (n ∷ numbers) [] = []
pairs_of (n ∷ numbers) (t ∷ targets) = (if n == 2 ^ 32 - 1 then None else Some (record { number = n; target = t })) ∷ pairs_of numbers targets

-- each source has a number and a target
pub record AreColumns (numbers targets : List ℕ) : Type 0 where
  pub few : length numbers < 2 ^ 32
  pub paired : length targets ≡ length numbers
