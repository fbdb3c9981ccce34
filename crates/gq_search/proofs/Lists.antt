-- Small facts on ranges.
use Rattle.std.proofs.Common.{◌≡◌, ℕ, zero, suc, ◌+◌, ◌<◌, length, get_or, refl, arith}
use Rattle.gq_search.specs.Layouts.{numbers_from}

pub length-numbers_from : (x n : ℕ) → length (numbers_from x n) ≡ n
length-numbers_from x zero = refl
length-numbers_from x (suc n) = omega (arith, length-numbers_from (x + 1) n)

pub get_or-numbers_from : (x n i : ℕ) → i < n → get_or (numbers_from x n) i 0 ≡ x + i
get_or-numbers_from x zero i h = absurd (omega arith)
get_or-numbers_from x (suc n) zero h = omega arith
get_or-numbers_from x (suc n) (suc i) h = omega (arith, get_or-numbers_from (x + 1) n i (omega arith))
