-- A word that is filled bit by bit.
use Rattle.std.proofs.Common.{◌≡◌, ◌≢◌, ℕ, ◌+◌, ◌*◌, ◌%◌, ◌^◌, ◌<◌, ◌≤◌, max, Bool, true, false, eqb, sym, ap, ◌∙◌, arith, inl, inr, w64}
use Rattle.std.specs.Prelude.{◌==◌, bit_or}
use Rattle.std.specs.Int.{bit_at}
use mir.Val.{bool_byte}
use Rattle.std.proofs.lemmas.Bool.{cases_eq}
use Rattle.std.proofs.lemmas.Nat.Bits.{bit_at-zero, bit_at_or, bit_at_set_same, bit_at_set_other}

-- a bit put into a word at a place that is free
or_same : (w r : ℕ) (on : Bool) → r < 64 → bit_at w r ≡ 0 → (bit_at (bit_or w (bool_byte on * 2 ^ r % 2 ^ 64)) r == 1) ≡ on
or_same w r true h free = ap (λ v. eqb v 1) (bit_at_set_same w64 w r h)
or_same w r false h free =
    let none : 0 * 2 ^ r % 2 ^ 64 ≡ 0 = omega arith in
    ap (λ x. eqb (bit_at (bit_or w x) r) 1) none ∙ ap (λ v. eqb v 1) (bit_at_or w 0 r ∙ ap (λ v. max v (bit_at 0 r)) free ∙ ap (λ v. max 0 v) (bit_at-zero r))

or_other : (w r i : ℕ) (on : Bool) → r < 64 → i ≢ r → bit_at (bit_or w (bool_byte on * 2 ^ r % 2 ^ 64)) i ≡ bit_at w i
or_other w r i true h ne = bit_at_set_other w64 w r h i ne
or_other w r i false h ne =
    let none : 0 * 2 ^ r % 2 ^ 64 ≡ 0 = omega arith in
    let plain : max (bit_at w i) 0 ≡ bit_at w i = omega arith in
    ap (λ x. bit_at (bit_or w x) i) none ∙ bit_at_or w 0 i ∙ ap (λ v. max (bit_at w i) v) (bit_at-zero i) ∙ plain

-- the bits before a place tell what a test says there, and no other bit is set
pub record AreBits (test : ℕ → Bool) (n word : ℕ) : Type 0 where
  pub told : (i : ℕ) → i < n → (bit_at word i == 1) ≡ test i
  pub free : (i : ℕ) → n ≤ i → bit_at word i ≡ 0

pub no_bits : (test : ℕ → Bool) → AreBits test 0 0
no_bits test = record { told = λ i h. absurd (omega (arith, h)); free = λ i h. bit_at-zero i }

pub one_bit : (test : ℕ → Bool) (n word : ℕ) (on : Bool) → AreBits test n word → n < 64 → on ≡ test n → AreBits test (n + 1) (bit_or word (bool_byte on * 2 ^ n % 2 ^ 64))
one_bit test n word on b few is = record {
  told = λ i h. elim (cases_eq i n) [
    | inl same ↦ ap (λ j. eqb (bit_at (bit_or word (bool_byte on * 2 ^ n % 2 ^ 64)) j) 1) same ∙ or_same word n on few (b.free n (omega arith)) ∙ is ∙ ap test (sym same)
    | inr ne ↦ ap (λ w. eqb w 1) (or_other word n i on few ne) ∙ b.told i (omega (arith, ne, h))
  ];
  free = λ i h. or_other word n i on few (λ e. omega (arith, e, h)) ∙ b.free i (omega (arith, h));
}
