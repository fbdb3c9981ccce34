-- Slots that are taken from a pool, one after another, and given back.
use Rattle.std.specs.Prelude.{◌≢◌, ℕ, List, [], ◌∷◌}
use Rattle.std.specs.List.{AllByRecursion}
use Rattle.gq_pool.specs.Pool.{Pool, IsOut, taken, freed}

-- a list of slots: their numbers, and how many it has room for
pub record Slots : Type 0 where
  pub numbers : List ℕ
  pub room : ℕ

-- no slot stands twice among others
abbrev pub AreApart : List ℕ → Type 0
AreApart [] = Unit {0}
AreApart (s ∷ ss) = AllByRecursion (λ t. s ≢ t) ss × AreApart ss

-- different slots are out
pub record Holds (p : Pool) (slots : List ℕ) : Type 0 where
  pub out : AllByRecursion (IsOut p) slots
  pub apart : AreApart slots

-- the pool with slots taken
abbrev pub all_taken : Pool → List ℕ → Pool
all_taken p [] = p
all_taken p (s ∷ ss) = all_taken (taken p s) ss

-- the pool with slots given back
abbrev pub all_freed : Pool → List ℕ → Pool
all_freed p [] = p
all_freed p (s ∷ ss) = freed (all_freed p ss) s
