-- A number for each integer, and no two integers have one.
use Rattle.std.specs.Prelude.{ℕ, ℤ, pos, negsuc, ◌+◌, ◌*◌}

abbrev pub number_of : ℤ → ℕ
number_of (pos n) = 2 * n
number_of (negsuc n) = 2 * n + 1
