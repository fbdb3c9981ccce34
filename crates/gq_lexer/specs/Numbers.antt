-- Digits and the numbers that they spell.
use Rattle.std.specs.Prelude.{ℕ, ◌+◌, ◌*◌, List, fold}
use Rattle.std.specs.Char.{digit_value, is_digit}
use Rattle.std.specs.List.{prefix_len}

-- how many digits of a base a text begins with
abbrev pub digits_at : ℕ → List ℕ → ℕ
digits_at base cs = prefix_len (λ c. is_digit c base) cs

-- the number that digits of a base spell
abbrev pub value_in : ℕ → List ℕ → ℕ
value_in base digits = fold (λ v d. v * base + digit_value d) 0 digits
