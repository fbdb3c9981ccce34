-- Lists that there are only where they are not too long.
use Rattle.std.specs.Prelude.{ℕ, nat_lt, Option, Some, None, List, length, if◌then◌else◌}

-- a list of at most so many items, or none
abbrev pub at_most : {X : Type 0} → ℕ → List X → Option (List X)
at_most n xs = if nat_lt n (length xs) then None else Some xs
