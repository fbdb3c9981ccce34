-- Keys that stand in order, each once.
use Rattle.std.specs.Prelude.{◌≡◌, ℕ, true, List, [], ◌∷◌}
use Rattle.std.specs.List.{AllByRecursion}
use Rattle.gq_search.specs.Layouts.{later}

-- each is later than all before it, so none stands twice
abbrev pub Rises : List (List ℕ) → Type 0
Rises [] = Unit {0}
Rises (k ∷ ks) = AllByRecursion (λ b. later k b ≡ true) ks × Rises ks
