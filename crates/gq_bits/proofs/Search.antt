-- A search for the next bit, word by word, and words whose first bits are set.
use Rattle.std.proofs.Common.{◌≡◌, ℕ, ◌+◌, ◌-◌, ◌*◌, ◌/◌, ◌%◌, ◌^◌, ◌<◌, ◌≤◌, Bool, true, false, eqb, List, length, get_or, set, refl, sym, ap, ◌∙◌, arith, inl, inr, w64}
use Rattle.std.specs.Prelude.{◌==◌, ◌&&◌, bit_and, nat_lt, nat_le}
use Rattle.std.specs.Int.{bit_at, trailing_zeros}
use Rattle.std.proofs.lemmas.Bool.{cases_lt, cases_eq, lt-ltb, le-ltb, le-leb, lt-leb}
use Rattle.std.proofs.lemmas.Nat.{and_le_l, one_shl}
use Rattle.std.proofs.lemmas.Nat.Bits.{ones_shl, bit_at_mask_inside, bit_at_mask_below, bit_at-trailing_zeros, bit_at_ones, bit_at_ones_above, bit_at-zero}
use Rattle.gq_bits.specs.steps.Bits.{bit_of}
use Rattle.gq_bits.proofs.Words.{bit_of-past, bit_of-set_same, bit_of-set_other, word_bit, test-bit_and}

-- the search for a bit at or after a place has passed the words before index, and has word left of that one
pub record Sought (ws : List ℕ) (place index word : ℕ) : Type 0 where
  pub inside : index < length ws
  pub fits : word < 2 ^ 64
  pub passed : (k : ℕ) → place ≤ k → k < 64 * index → bit_of ws k ≡ false
  pub bits : (i : ℕ) → i < 64 → (bit_at word i == 1) ≡ (bit_of ws (64 * index + i) && nat_le place (64 * index + i))

-- the bits of `MAX << k`
high_bits : (k i : ℕ) → k < 64 → i < 64 → (bit_at ((2 ^ 64 - 1) * 2 ^ k % 2 ^ 64) i == 1) ≡ nat_le k i
high_bits k i h w =
    ap (λ m. eqb (bit_at m i) 1) (ones_shl 64 k (omega arith)) ∙ elim (cases_lt i k) [
      | inl below ↦ ap (λ b. eqb b 1) (bit_at_mask_below k 64 i below) ∙ sym (lt-leb k i below)
      | inr above ↦ ap (λ b. eqb b 1) (bit_at_mask_inside k 64 i above w) ∙ sym (le-leb k i above)
    ]

le-shift : (a m n p : ℕ) → p ≡ a + m → nat_le m n ≡ nat_le p (a + n)
le-shift a m n p e = elim (cases_lt n m) [
  | inl less ↦ lt-leb m n less ∙ sym (lt-leb p (a + n) (omega arith))
  | inr more ↦ le-leb m n more ∙ sym (le-leb p (a + n) (omega arith))
]

pub sought_first : (ws : List ℕ) (place : ℕ) → place < 64 * length ws → get_or ws (place / 64) 0 < 2 ^ 64 →
    Sought ws place (place / 64) (bit_and (get_or ws (place / 64) 0) ((2 ^ 64 - 1) * 2 ^ (place % 64) % 2 ^ 64))
sought_first ws place h fit = record {
  inside = omega arith;
  fits = omega (arith, and_le_l (get_or ws (place / 64) 0) ((2 ^ 64 - 1) * 2 ^ (place % 64) % 2 ^ 64), fit);
  passed = λ k a b. absurd (omega arith);
  bits = λ i w.
      test-bit_and (get_or ws (place / 64) 0) ((2 ^ 64 - 1) * 2 ^ (place % 64) % 2 ^ 64) i
      ∙ ap (λ b. b && eqb (bit_at ((2 ^ 64 - 1) * 2 ^ (place % 64) % 2 ^ 64) i) 1) (sym (word_bit ws (place / 64) i w))
      ∙ ap (λ b. bit_of ws (64 * (place / 64) + i) && b) (high_bits (place % 64) i (omega arith) w ∙ le-shift (64 * (place / 64)) (place % 64) i place (omega arith));
}

and-true_right : (b t : Bool) → t ≡ true → b ≡ (b && t)
and-true_right true t e = sym e
and-true_right false t e = refl

from_and : (b t : Bool) → t ≡ true → (b && t) ≡ b
from_and b t e = sym (and-true_right b t e)

-- a word with no bit left has none from the place on
none_left : (ws : List ℕ) (place index k : ℕ) → Sought ws place index 0 → place ≤ k → k < 64 * (index + 1) → bit_of ws k ≡ false
none_left ws place index k s a b = elim (cases_lt k (64 * index)) [
  | inl before ↦ s.passed k a before
  | inr here ↦
      let at : 64 * index + (k - 64 * index) ≡ k = omega arith in
      let ge : nat_le place k ≡ true = le-leb place k a in
      sym (from_and (bit_of ws k) (nat_le place k) ge)
      ∙ ap (λ j. bit_of ws j && nat_le place j) (sym at) ∙ sym (s.bits (k - 64 * index) (omega arith)) ∙ ap (λ v. eqb v 1) (bit_at-zero (k - 64 * index))
]

pub sought_next : (ws : List ℕ) (place index : ℕ) → Sought ws place index 0 → index + 1 < length ws → place < 64 * (index + 1) → get_or ws (index + 1) 0 < 2 ^ 64 →
    Sought ws place (index + 1) (get_or ws (index + 1) 0)
sought_next ws place index s h near fit = record {
  inside = h;
  fits = fit;
  passed = λ k a b. none_left ws place index k s a b;
  bits = λ i w. sym (word_bit ws (index + 1) i w) ∙ and-true_right (bit_of ws (64 * (index + 1) + i)) (nat_le place (64 * (index + 1) + i)) (le-leb place (64 * (index + 1) + i) (omega arith));
}

pub sought_none : (ws : List ℕ) (place index : ℕ) → Sought ws place index 0 → length ws ≤ index + 1 → (k : ℕ) → place ≤ k → bit_of ws k ≡ false
sought_none ws place index s h k a = elim (cases_lt k (64 * (index + 1))) [
  | inl low ↦ none_left ws place index k s a low
  | inr high ↦ bit_of-past ws k (omega arith)
]

-- what the least bit that is left is
pub record IsNext (ws : List ℕ) (place found : ℕ) : Type 0 where
  pub after : place ≤ found
  pub inside : found < 64 * length ws
  pub is_set : bit_of ws found ≡ true
  pub least : (k : ℕ) → place ≤ k → k < found → bit_of ws k ≡ false

both_true : (x y : Bool) → (x && y) ≡ true → (x ≡ true) × (y ≡ true)
both_true true y e = (refl, e)
both_true false y e = (e, absurd (cc))

leb_le : (a b : ℕ) → nat_le a b ≡ true → a ≤ b
leb_le a b e = elim (cases_lt b a) [ inl less ↦ absurd (let no : nat_le a b ≡ false = lt-leb a b less in cc) | inr more ↦ more ]

pub sought_found : (ws : List ℕ) (place index word : ℕ) → Sought ws place index word → 0 < word → IsNext ws place (64 * index + trailing_zeros w64 word)
sought_found ws place index word s some =
    let t : ℕ = trailing_zeros w64 word in
    let lowest = bit_at-trailing_zeros w64 word some s.fits in
    let inside : t < 64 = lowest.0 in
    let here : (bit_of ws (64 * index + t) && nat_le place (64 * index + t)) ≡ true = sym (s.bits t inside) ∙ ap (λ b. eqb b 1) lowest.1 in
    let both = both_true (bit_of ws (64 * index + t)) (nat_le place (64 * index + t)) here in
    record {
      after = leb_le place (64 * index + t) both.1;
      inside = omega (arith, s.inside);
      is_set = both.0;
      least = λ k a b. elim (cases_lt k (64 * index)) [
        | inl before ↦ s.passed k a before
        | inr within ↦
            let at : 64 * index + (k - 64 * index) ≡ k = omega arith in
            sym (from_and (bit_of ws k) (nat_le place k) (le-leb place k a))
            ∙ ap (λ j. bit_of ws j && nat_le place j) (sym at) ∙ sym (s.bits (k - 64 * index) (omega arith)) ∙ ap (λ v. eqb v 1) (lowest.2 (k - 64 * index) (omega arith))
      ];
    }

-- the first bits are set, and one more word has m of its bits set
pub first_more : (ws : List ℕ) (n m v : ℕ) → n < length ws → m ≤ 64 → ((i : ℕ) → i < 64 → (bit_at v i == 1) ≡ nat_lt i m) →
    ((k : ℕ) → bit_of ws k ≡ nat_lt k (64 * n)) → (k : ℕ) → bit_of (set ws n v) k ≡ nat_lt k (64 * n + m)
first_more ws n m v h short word below k = elim (cases_eq (k / 64) n) [
  | inl same ↦ bit_of-set_same ws n v k h same ∙ word (k % 64) (omega arith) ∙ elim (cases_lt (k % 64) m) [
    | inl less ↦ lt-ltb (k % 64) m less ∙ sym (lt-ltb k (64 * n + m) (omega arith))
    | inr more ↦ le-ltb (k % 64) m more ∙ sym (le-ltb k (64 * n + m) (omega arith))
  ]
  | inr ne ↦ bit_of-set_other ws n v k ne ∙ below k ∙ elim (cases_lt k (64 * n)) [
    | inl less ↦ lt-ltb k (64 * n) less ∙ sym (lt-ltb k (64 * n + m) (omega arith))
    | inr more ↦ le-ltb k (64 * n) more ∙ sym (le-ltb k (64 * n + m) (omega arith))
  ]
]

-- the bits of `2 ^ m - 1`
pub low_bits : (m i : ℕ) → (bit_at (2 ^ m - 1) i == 1) ≡ nat_lt i m
low_bits m i = elim (cases_lt i m) [
  | inl less ↦ ap (λ b. eqb b 1) (bit_at_ones m i less) ∙ sym (lt-ltb i m less)
  | inr more ↦ ap (λ b. eqb b 1) (bit_at_ones_above m i more) ∙ sym (le-ltb i m more)
]

pub low_part : (m i : ℕ) → m < 64 → (bit_at (1 * 2 ^ m % 2 ^ 64 - 1) i == 1) ≡ nat_lt i m
low_part m i h = ap (λ v. eqb (bit_at (v - 1) i) 1) (one_shl m 64 h) ∙ low_bits m i
