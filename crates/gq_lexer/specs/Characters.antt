-- Classes of characters, by their code points (this project's profile).
use Rattle.std.specs.Prelude.{ℕ, Bool, false, ◌==◌, List, [], ◌∷◌}
use Rattle.std.specs.Char.{is_ascii_digit}

-- a text begins with this character
abbrev pub begins : ℕ → List ℕ → Bool
begins c [] = false
begins c (d ∷ cs) = d == c

-- a text begins with a digit
abbrev pub begins_digit : List ℕ → Bool
begins_digit [] = false
begins_digit (c ∷ cs) = is_ascii_digit c
