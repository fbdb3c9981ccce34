-- Lists of nodes that differ, and how many of some do.
use Rattle.std.specs.Prelude.{◌≡◌, ◌<◌, ℕ, true, false, List, [], ◌∷◌, length}
use Rattle.std.specs.List.{AllByRecursion}
use Rattle.gq_base.specs.declared.NodeId.{NodeId}
use Rattle.gq_plan.specs.Keys.{has_key, same_nodes}

-- no list stands twice
abbrev pub AreDifferent : List (List NodeId) → Type 0
AreDifferent [] = Unit {0}
AreDifferent (k ∷ ks) = AllByRecursion (λ l. same_nodes k l ≡ false) ks × AreDifferent ks

-- more than so many of these lists differ
pub record HasMany (limit : ℕ) (all : List (List NodeId)) : Type 0 where
  pub some : List (List NodeId)
  pub apart : AreDifferent some
  pub among : AllByRecursion (λ k. has_key k all ≡ true) some
  pub many : limit < length some

-- no more than so many do
abbrev pub HasNoMore : ℕ → List (List NodeId) → Type 0
HasNoMore limit all = HasMany limit all → ⊥
