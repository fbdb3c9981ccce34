-- The bits of masks that compare lanes, of unsigned numbers and of signed ones.
use Rattle.std.proofs.Common.{◌≡◌, ℕ, ◌-◌, ◌%◌, ◌^◌, ◌<◌, Bool, true, false, cond, eqb, List, length, get_or, take, map, replicate, refl, sym, ap, ◌∙◌, arith, w32, w64, ℤ, pos, SFits, of_z, to_z, int_lt}
use Rattle.std.specs.Prelude.{◌==◌, int_le}
use Rattle.std.specs.Int.{bit_at}
use Rattle.std.specs.Ordering.{int_eq}
use Rattle.std.proofs.Math.Facts.{to_z-of_z}
use Rattle.std.proofs.lemmas.Bool.{eqb-true, eq-eqb}
use Rattle.std.proofs.lemmas.Bool.Decides.{Decides-int_eq, same_from_decides}
use Rattle.std.proofs.lemmas.List.{get_or-map, get_or-take, length-map, length-take, get_or-replicate, length-replicate}
use Rattle.std.proofs.lemmas.Simd.{tops_compared, mask_l-mod, bit_mask_l, get_or-zip2, length-zip2}
use lib.Lanes.{mask_l, top, zip2}
use mir.Val.{bits, hbits}
use mir.Syntax.{Width}
use Rattle.gq_lanes.specs.Tests.{cell}

test_of : (b : Bool) → (cond b 1 0 == 1) ≡ b
test_of true = refl
test_of false = refl

-- bit i of the mask of two lists of at most 64 lanes is the test of lane i
pub bit_compared : (w : Width) (t : ℕ → ℕ → Bool) (xs ys : List ℕ) (i : ℕ) → length xs ≡ 64 → length ys ≡ 64 → i < 64 →
    (bit_at (mask_l (map (top (hbits w)) (zip2 (λ a b. cond (t a b) (2 ^ bits w - 1) 0) xs ys)) % 2 ^ 64) i == 1) ≡ t (get_or xs i 0) (get_or ys i 0)
bit_compared w t xs ys i hx hy h =
    ap (λ ms. eqb (bit_at (mask_l ms % 2 ^ 64) i) 1) (tops_compared w t xs ys)
    ∙ ap (λ m. eqb (bit_at m i) 1) (mask_l-mod (zip2 t xs ys) 64 (omega (arith, length-zip2 t xs ys (hx ∙ sym hy), hx)))
    ∙ ap (λ b. eqb b 1) (bit_mask_l (zip2 t xs ys) i)
    ∙ test_of (get_or (zip2 t xs ys) i false)
    ∙ get_or-zip2 t xs ys i 0 0 false (omega (arith, hx)) (omega (arith, hy))

-- a lane that was loaded from cells
pub loaded : (xs : List ℤ) (i : ℕ) → length xs ≡ 64 → i < 64 → get_or (map (of_z w64) (take 64 xs)) i 0 ≡ of_z w64 (cell xs i)
loaded xs i len h =
    get_or-map (of_z w64) (take 64 xs) i (pos 0) 0 (omega (arith, length-take 64 xs, len)) ∙ ap (of_z w64) (get_or-take 64 xs i (pos 0) h)

pub length-loaded : (xs : List ℤ) → length xs ≡ 64 → length (map (of_z w64) (take 64 xs)) ≡ 64
length-loaded xs len = length-map (take 64 xs) (of_z w64) ∙ omega (arith, length-take 64 xs, len)

-- the comparisons of lanes are those of the signed numbers that they hold
pub same_equal : (a b : ℤ) → SFits w64 a → SFits w64 b → eqb (of_z w64 a) (of_z w64 b) ≡ int_eq a b
same_equal a b f g = same_from_decides (eqb (of_z w64 a) (of_z w64 b)) (int_eq a b)
    ((λ e. sym (to_z-of_z {w = w64} f) ∙ ap (to_z w64) (eqb-true (of_z w64 a) (of_z w64 b) e) ∙ to_z-of_z {w = w64} g), (λ e. eq-eqb (of_z w64 a) (of_z w64 b) (ap (of_z w64) e)))
    (Decides-int_eq a b)

pub same_less : (a b : ℤ) → SFits w64 a → SFits w64 b → int_lt (to_z w64 (of_z w64 a)) (to_z w64 (of_z w64 b)) ≡ int_lt a b
same_less a b f g = rw (to_z-of_z {w = w64} f, to_z-of_z {w = w64} g) refl

pub same_at_most : (a b : ℤ) → SFits w64 a → SFits w64 b → int_le (to_z w64 (of_z w64 a)) (to_z w64 (of_z w64 b)) ≡ int_le a b
same_at_most a b f g = rw (to_z-of_z {w = w64} f, to_z-of_z {w = w64} g) refl

-- two lists of cells, lane by lane
pub columns_bit : (t : ℕ → ℕ → Bool) (u : ℤ → ℤ → Bool) → ((a b : ℤ) → SFits w64 a → SFits w64 b → t (of_z w64 a) (of_z w64 b) ≡ u a b) →
    (xs ys : List ℤ) → length xs ≡ 64 → length ys ≡ 64 → ((k : ℕ) → k < length xs → SFits w64 (cell xs k)) → ((k : ℕ) → k < length ys → SFits w64 (cell ys k)) → (i : ℕ) → i < 64 →
    (bit_at (mask_l (map (top (hbits w64)) (zip2 (λ a b. cond (t a b) (2 ^ bits w64 - 1) 0) (map (of_z w64) (take 64 xs)) (map (of_z w64) (take 64 ys)))) % 2 ^ 64) i == 1) ≡ u (cell xs i) (cell ys i)
columns_bit t u same xs ys hx hy fx fy i h =
    bit_compared w64 t (map (of_z w64) (take 64 xs)) (map (of_z w64) (take 64 ys)) i (length-loaded xs hx) (length-loaded ys hy) h
    ∙ ap (λ a. t a (get_or (map (of_z w64) (take 64 ys)) i 0)) (loaded xs i hx h) ∙ ap (t (of_z w64 (cell xs i))) (loaded ys i hy h)
    ∙ same (cell xs i) (cell ys i) (fx i (omega (arith, hx))) (fy i (omega (arith, hy)))

-- cells and a constant
pub const_bit : (t : ℕ → ℕ → Bool) (u : ℤ → ℤ → Bool) → ((a b : ℤ) → SFits w64 a → SFits w64 b → t (of_z w64 a) (of_z w64 b) ≡ u a b) →
    (xs : List ℤ) (c : ℤ) → length xs ≡ 64 → ((k : ℕ) → k < length xs → SFits w64 (cell xs k)) → SFits w64 c → (i : ℕ) → i < 64 →
    (bit_at (mask_l (map (top (hbits w64)) (zip2 (λ a b. cond (t a b) (2 ^ bits w64 - 1) 0) (map (of_z w64) (take 64 xs)) (replicate 64 (of_z w64 c)))) % 2 ^ 64) i == 1) ≡ u (cell xs i) c
const_bit t u same xs c hx fx fc i h =
    bit_compared w64 t (map (of_z w64) (take 64 xs)) (replicate 64 (of_z w64 c)) i (length-loaded xs hx) (length-replicate 64 (of_z w64 c)) h
    ∙ ap (λ a. t a (get_or (replicate 64 (of_z w64 c)) i 0)) (loaded xs i hx h) ∙ ap (t (of_z w64 (cell xs i))) (get_or-replicate 64 i (of_z w64 c) 0 h)
    ∙ same (cell xs i) c (fx i (omega (arith, hx))) fc

pub const_bit_left : (t : ℕ → ℕ → Bool) (u : ℤ → ℤ → Bool) → ((a b : ℤ) → SFits w64 a → SFits w64 b → t (of_z w64 a) (of_z w64 b) ≡ u a b) →
    (xs : List ℤ) (c : ℤ) → length xs ≡ 64 → ((k : ℕ) → k < length xs → SFits w64 (cell xs k)) → SFits w64 c → (i : ℕ) → i < 64 →
    (bit_at (mask_l (map (top (hbits w64)) (zip2 (λ a b. cond (t a b) (2 ^ bits w64 - 1) 0) (replicate 64 (of_z w64 c)) (map (of_z w64) (take 64 xs)))) % 2 ^ 64) i == 1) ≡ u c (cell xs i)
const_bit_left t u same xs c hx fx fc i h =
    bit_compared w64 t (replicate 64 (of_z w64 c)) (map (of_z w64) (take 64 xs)) i (length-replicate 64 (of_z w64 c)) (length-loaded xs hx) h
    ∙ ap (λ a. t a (get_or (map (of_z w64) (take 64 xs)) i 0)) (get_or-replicate 64 i (of_z w64 c) 0 h) ∙ ap (t (of_z w64 c)) (loaded xs i hx h)
    ∙ same c (cell xs i) fc (fx i (omega (arith, hx)))

-- ids and a constant
pub id_bit : (xs : List ℕ) (c i : ℕ) → length xs ≡ 64 → i < 64 →
    (bit_at (mask_l (map (top 31) (zip2 (λ a b. cond (eqb a b) (2 ^ 32 - 1) 0) (take 64 xs) (replicate 64 c))) % 2 ^ 64) i == 1) ≡ (get_or xs i 0 == c)
id_bit xs c i hx h =
    bit_compared w32 eqb (take 64 xs) (replicate 64 c) i (omega (arith, length-take 64 xs, hx)) (length-replicate 64 c) h
    ∙ ap (λ a. eqb a (get_or (replicate 64 c) i 0)) (get_or-take 64 xs i 0 h) ∙ ap (eqb (get_or xs i 0)) (get_or-replicate 64 i c 0 h)
