-- A range of a list that goes past its end.
use Rattle.std.proofs.Common.{◌≡◌, ℕ, ◌-◌, List, length, take, drop, arith, min}
use Rattle.std.proofs.lemmas.Grind.{common_steps}

-- what a range keeps, however far it goes past the end
pub clamped : {A : Type 0} (xs : List A) (a b : ℕ) → take (min b (length xs) - min a (min b (length xs))) (drop (min a (min b (length xs))) xs) ≡ take (b - a) (drop a xs)
clamped xs a b = grind (arith, common_steps)

pub ruleset slicing = clamped
