-- The different keys of what is owed, in order, and how many they are.
use Rattle.std.specs.Prelude.{◌≡◌, ℕ, Bool, List, [], length, map, nat_eq, IsPermutation}
use Rattle.std.specs.Cmp.Lexicographic.{pointwise}
use Rattle.std.specs.Set.{is_member, distinct_count}
use Rattle.gq_search.specs.Law.{Rises}
use Rattle.gq_search.specs.Layouts.{Layout, key_of, Spot, owed_walks, owed_keys}

abbrev pub same_key : List ℕ → List ℕ → Bool
same_key = pointwise nat_eq

-- these are the different keys among some, in order: there is one such list at most
pub record AreKeysOf (ks all : List (List ℕ)) : Type 0 where
  pub rises : Rises ks
  pub same : (k : List ℕ) → is_member same_key ks k ≡ is_member same_key all k

-- wherever a pipeline is
abbrev pub KeysOfOwed : Type 0
KeysOfOwed =
    (l : Layout) (n : ℕ) (spot : Spot) (all : List (List ℕ))
    → IsPermutation all (map (key_of l []) (owed_walks l n spot)) → AreKeysOf (owed_keys l n spot) all

-- so many are they
abbrev pub KeysCounted : Type 0
KeysCounted = (ks all : List (List ℕ)) → AreKeysOf ks all → length ks ≡ distinct_count same_key all
