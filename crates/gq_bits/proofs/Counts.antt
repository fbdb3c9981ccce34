-- The ones among the first bits of words, word by word.
use Rattle.std.proofs.Common.{◌≡◌, ℕ, zero, suc, ◌+◌, ◌*◌, ◌/◌, ◌%◌, ◌^◌, ◌<◌, ◌≤◌, Bool, false, cond, eqb, List, [], ◌∷◌, ◌++◌, length, get_or, take, map, refl, sym, ap, ◌∙◌, arith, inl, inr, count_by}
use Rattle.std.specs.Prelude.{count_ones, ◌==◌}
use Rattle.std.specs.Int.{bit_at}
use Rattle.std.specs.List.{range_with_len, sum_by}
use lib.Lanes.{mask_l}
use Rattle.std.proofs.lemmas.Bool.{cases_lt}
use Rattle.std.proofs.lemmas.List.{get_or_past}
use Rattle.std.proofs.lemmas.List.Sums.{sum_by-cons, sum_by-append, sum_by_more, count_by-le-length}
use Rattle.std.proofs.lemmas.List.FromFn.{length-map-range_with_len, get_or-map-range_with_len, length-range_with_len}
use Rattle.std.proofs.lemmas.Nat.Bits.{bit_at-lt, bit_at_above, same_from_bits}
use Rattle.std.proofs.lemmas.Simd.{bit_mask_l, ones-mask_l}
use Rattle.gq_bits.specs.steps.Bits.{bit_of}

abbrev one_if : {X : Type 0} → (X → Bool) → X → ℕ
one_if p x = cond (p x) 1 0

pub count_by-map : {X : Type 0} (f : X → Bool) (xs : List X) → count_by (λ on. on) (map f xs) ≡ count_by f xs
count_by-map f [] = refl
count_by-map f (x ∷ xs) = omega (arith, sum_by-cons (one_if (λ on. on)) (f x) (map f xs), sum_by-cons (one_if f) x xs, count_by-map f xs)

range-append : (a m n : ℕ) → range_with_len a (m + n) ≡ range_with_len a m ++ range_with_len (a + m) n
range-append a zero n = (let e : 0 + n ≡ n = omega arith in let f : a ≡ a + 0 = omega arith in ap (range_with_len a) e ∙ ap (λ b. range_with_len b n) f)
range-append a (suc m) n =
    let e : suc m + n ≡ suc (m + n) = omega arith in
    let f : a + 1 + m ≡ a + suc m = omega arith in
    ap (range_with_len a) e ∙ ap (λ l. a ∷ l) (range-append (a + 1) m n ∙ ap (λ b. range_with_len (a + 1) m ++ range_with_len b n) f)

-- two tests that agree over two ranges count the same
count_by-shift : (f g : ℕ → Bool) (a b m : ℕ) → ((i : ℕ) → i < m → f (a + i) ≡ g (b + i)) → count_by f (range_with_len a m) ≡ count_by g (range_with_len b m)
count_by-shift f g a b zero h = refl
count_by-shift f g a b (suc m) h =
    let e0 : a + 0 ≡ a = omega arith in
    let e1 : b + 0 ≡ b = omega arith in
    let here : f a ≡ g b = ap f (sym e0) ∙ h 0 (omega arith) ∙ ap g e1 in
    let rec : count_by f (range_with_len (a + 1) m) ≡ count_by g (range_with_len (b + 1) m) =
    count_by-shift f g (a + 1) (b + 1) m (λ i w. (let p : a + 1 + i ≡ a + suc i = omega arith in let q : b + suc i ≡ b + 1 + i = omega arith in ap f p ∙ h (suc i) (omega arith) ∙ ap g q)) in
    sum_by-cons (one_if f) a (range_with_len (a + 1) m) ∙ ap (λ t. cond t 1 0 + count_by f (range_with_len (a + 1) m)) here ∙ ap (λ k. cond (g b) 1 0 + k) rec ∙ sym (sum_by-cons (one_if g) b (range_with_len (b + 1) m))

bit_test : (b : ℕ) → b < 2 → cond (eqb b 1) 1 0 ≡ b
bit_test zero h = refl
bit_test (suc zero) h = refl
bit_test (suc (suc b)) h = absurd (omega arith)

-- a number below 2 ^ m is the mask of its m bits
mask_bits : (n m : ℕ) → n < 2 ^ m → mask_l (map (λ i. eqb (bit_at n i) 1) (range_with_len 0 m)) ≡ n
mask_bits n m h =
    let p : ℕ → Bool = λ i. eqb (bit_at n i) 1 in
    same_from_bits (mask_l (map p (range_with_len 0 m))) n (λ i. bit_mask_l (map p (range_with_len 0 m)) i ∙ elim (cases_lt i m) [
      | inl low ↦ ap (λ b. cond b 1 0) (get_or-map-range_with_len p 0 m i i false low (omega arith)) ∙ bit_test (bit_at n i) (bit_at-lt n i)
      | inr high ↦ ap (λ b. cond b 1 0) (get_or_past (map p (range_with_len 0 m)) i false (omega (arith, length-map-range_with_len p 0 m))) ∙ sym (bit_at_above n m i h high)
    ])

pub count_word : (n m : ℕ) → n < 2 ^ m → count_by (λ i. eqb (bit_at n i) 1) (range_with_len 0 m) ≡ count_ones n
count_word n m h = sym (ones-mask_l (λ i. eqb (bit_at n i) 1) (range_with_len 0 m)) ∙ ap count_ones (mask_bits n m h)

pub ones_at_most : (n m : ℕ) → n < 2 ^ m → count_ones n ≤ m
ones_at_most n m h = omega (arith, count_word n m h, count_by-le-length (λ i. eqb (bit_at n i) 1) (range_with_len 0 m), length-range_with_len 0 m)

-- the ones among m bits from word k on, where v has those bits
pub count_part : (ws : List ℕ) (k m v : ℕ) → m ≤ 64 → v < 2 ^ m → ((i : ℕ) → i < m → (bit_at v i == 1) ≡ (bit_at (get_or ws k 0) i == 1)) →
    count_by (bit_of ws) (range_with_len 0 (64 * k + m)) ≡ count_by (bit_of ws) (range_with_len 0 (64 * k)) + count_ones v
count_part ws k m v short fits same =
    let seg : count_by (bit_of ws) (range_with_len (64 * k) m) ≡ count_ones v =
    count_by-shift (bit_of ws) (λ i. eqb (bit_at v i) 1) (64 * k) 0 m (λ i h.
    (let q : (64 * k + i) / 64 ≡ k = omega arith in let r : (64 * k + i) % 64 ≡ i = omega arith in let z : i ≡ 0 + i = omega arith in
    ap (λ j. eqb (bit_at (get_or ws j 0) ((64 * k + i) % 64)) 1) q ∙ ap (λ j. eqb (bit_at (get_or ws k 0) j) 1) r ∙ sym (same i h) ∙ ap (λ j. eqb (bit_at v j) 1) z)) ∙ count_word v m fits in
    let z : 0 + 64 * k ≡ 64 * k = omega arith in
    ap (count_by (bit_of ws)) (range-append 0 (64 * k) m ∙ ap (λ b. range_with_len 0 (64 * k) ++ range_with_len b m) z)
    ∙ sum_by-append (one_if (bit_of ws)) (range_with_len 0 (64 * k)) (range_with_len (64 * k) m)
    ∙ ap (λ b. count_by (bit_of ws) (range_with_len 0 (64 * k)) + b) seg

pub count_words : (ws : List ℕ) (k : ℕ) → k ≤ length ws → ((i : ℕ) → i < k → get_or ws i 0 < 2 ^ 64) →
    count_by (bit_of ws) (range_with_len 0 (64 * k)) ≡ sum_by count_ones (take k ws)
count_words ws zero h fit = refl
count_words ws (suc k) h fit =
    let e : 64 * suc k ≡ 64 * k + 64 = omega arith in
    let next : k + 1 ≡ suc k = omega arith in
    ap (λ n. count_by (bit_of ws) (range_with_len 0 n)) e
    ∙ count_part ws k 64 (get_or ws k 0) (omega arith) (fit k (omega arith)) (λ i w. refl)
    ∙ ap (λ a. a + count_ones (get_or ws k 0)) (count_words ws k (omega arith) (λ i w. fit i (omega arith)))
    ∙ sym (sum_by_more count_ones ws k 0 (omega arith)) ∙ ap (λ j. sum_by count_ones (take j ws)) next
