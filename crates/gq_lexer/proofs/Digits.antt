-- One more digit of a number.
use Rattle.std.proofs.Common.{◌≡◌, ℕ, ◌+◌, ◌*◌, ◌<◌, ◌≤◌, min, true, List, ◌⊎◌, length, take, drop, get_or, sym, ap, ◌∙◌, arith, inl, inr}
use Rattle.std.specs.Char.{digit_value, is_digit}
use Rattle.std.proofs.lemmas.List.Sums.{fold_more, prefix_len-drop_yes}
use Rattle.std.proofs.lemmas.Bool.Decides.{nat_tests}
use Rattle.std.proofs.Math.Nat.{mul-le-mul_left}
use Rattle.gq_lexer.specs.Numbers.{digits_at, value_in}

least : (m v base : ℕ) → 1 ≤ base → m ≤ v → m ≤ v * base
least m v base h k = omega (arith, mul-le-mul_left v h)

small_or_large : (v m : ℕ) → (v ≤ m) ⊎ (m ≤ v)
small_or_large v m = grind arith

-- a product and a sum that are cut at a bound
pub capped : (m v base d : ℕ) → 1 ≤ base → min (min (min v m * base) m + d) m ≡ min (v * base + d) m
capped m v base d h = elim (small_or_large v m) [
  | inl small ↦ let e : min v m ≡ v = omega arith in ap (λ w. min (min (w * base) m + d) m) e ∙ omega arith
  | inr large ↦ let e : min v m ≡ m = omega arith in ap (λ w. min (min (w * base) m + d) m) e ∙ omega (arith, least m m base h (omega arith), least m v base h large)
]

-- one more digit stands at the front
pub digits_next : (base : ℕ) (cs : List ℕ) (at c : ℕ) → at < length cs → c ≡ get_or cs at c → digit_value c < base
    → digits_at base cs ≡ at + digits_at base (drop at cs) → digits_at base cs ≡ at + 1 + digits_at base (drop (at + 1) cs)
digits_next base cs at c h is small so_far =
    let test : is_digit (get_or cs at c) base ≡ true = ap (λ d. is_digit d base) (sym is) ∙ grind (arith, nat_tests) in
    omega (arith, so_far, prefix_len-drop_yes (λ d. is_digit d base) cs at c h test)

pub value_next : (base : ℕ) (cs : List ℕ) (at c : ℕ) → at < length cs → c ≡ get_or cs at c → value_in base (take (at + 1) cs) ≡ value_in base (take at cs) * base + digit_value c
value_next base cs at c h is = fold_more (λ v d. v * base + digit_value d) 0 cs at c h ∙ ap (λ d. value_in base (take at cs) * base + digit_value d) (sym is)

-- one more digit in a value that is cut at a bound
pub value_step : (m base : ℕ) (cs : List ℕ) (at c value product sum by digit : ℕ) → 1 ≤ base → at < length cs → c ≡ get_or cs at c → value ≡ min (value_in base (take at cs)) m
    → by ≡ base → digit ≡ digit_value c → product ≡ min (value * by) m → sum ≡ min (product + digit) m → sum ≡ min (value_in base (take (at + 1) cs)) m
value_step m base cs at c value product sum by digit least_base h is so_far e1 e2 e3 e4 =
    let cut = capped m (value_in base (take at cs)) base (digit_value c) least_base in
    let next = value_next base cs at c h is in
    cc
