-- Filters and maps of a range of numbers, with one more at its end.
use Rattle.std.proofs.Common.{◌≡◌, ◌∙◌, ap, ℕ, ◌+◌, Bool, false, true, cond, List, [], ◌∷◌, ◌++◌, filter, map, flat_map, append-nil, zero-add}
use Rattle.std.specs.List.{range_with_len}
use Rattle.std.proofs.lemmas.Grind.{flat_map-append}
use Rattle.std.proofs.lemmas.List.Elements.{filter-append}
use Rattle.std.proofs.lemmas.List.FromFn.{map-range_with_len_more}
use Rattle.gq_alternatives.specs.Alternatives.{Reading}
use Rattle.gq_scopes.proofs.RangeLemmas.{range_more}

from_zero : (n : ℕ) → range_with_len 0 (n + 1) ≡ range_with_len 0 n ++ n ∷ []
from_zero n = range_more 0 n ∙ ap (λ k. range_with_len 0 n ++ k ∷ []) (zero-add n)

-- the readings of tables
pub readings_more : (f : ℕ → List Reading) (p : Reading → Bool) (n : ℕ) → filter p (flat_map f (range_with_len 0 (n + 1))) ≡ filter p (flat_map f (range_with_len 0 n)) ++ filter p (f n)
readings_more f p n =
    ap (λ ks. filter p (flat_map f ks)) (from_zero n) ∙ ap (filter p) (flat_map-append f (range_with_len 0 n) (n ∷ []) ∙ ap (λ rs. flat_map f (range_with_len 0 n) ++ rs) (append-nil (f n)))
    ∙ filter-append p (flat_map f (range_with_len 0 n)) (f n)

-- a list for each number
pub tables_more : (f : ℕ → List ℕ) (n : ℕ) → map f (range_with_len 0 (n + 1)) ≡ map f (range_with_len 0 n) ++ f n ∷ []
tables_more f n = map-range_with_len_more f 0 n n (zero-add n)

-- the numbers that pass
numbers_more : (p : ℕ → Bool) (n : ℕ) → filter p (range_with_len 0 (n + 1)) ≡ filter p (range_with_len 0 n) ++ cond (p n) (n ∷ []) []
numbers_more p n = ap (filter p) (from_zero n) ∙ filter-append p (range_with_len 0 n) (n ∷ [])

pub numbers_kept : (p : ℕ → Bool) (n : ℕ) → p n ≡ true → filter p (range_with_len 0 (n + 1)) ≡ filter p (range_with_len 0 n) ++ n ∷ []
numbers_kept p n e = numbers_more p n ∙ ap (λ b. filter p (range_with_len 0 n) ++ cond b (n ∷ []) []) e

pub numbers_dropped : (p : ℕ → Bool) (n : ℕ) → p n ≡ false → filter p (range_with_len 0 (n + 1)) ≡ filter p (range_with_len 0 n)
numbers_dropped p n e = numbers_more p n ∙ ap (λ b. filter p (range_with_len 0 n) ++ cond b (n ∷ []) []) e ∙ append-nil (filter p (range_with_len 0 n))

pub ruleset numbers = (numbers_kept, numbers_dropped)
