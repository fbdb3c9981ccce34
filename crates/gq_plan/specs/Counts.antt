-- How often something stands in a list.
use Rattle.std.specs.Prelude.{ℕ, ◌+◌, Bool, true, false, List, [], ◌∷◌}

-- 1 where it is true, 0 where it is false
abbrev pub bit : Bool → ℕ
bit true = 1
bit false = 0

-- the sum of a number of each item
abbrev pub total : {X : Type 0} → (X → ℕ) → List X → ℕ
total f [] = 0
total f (x ∷ xs) = f x + total f xs

-- how many items pass a test
abbrev pub hits : {X : Type 0} → (X → Bool) → List X → ℕ
hits p = total (λ x. bit (p x))
