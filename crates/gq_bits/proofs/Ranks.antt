-- The ones before a place of a list of bits.
use Rattle.std.proofs.Common.{◌≡◌, ℕ, ◌+◌, ◌-◌, ◌*◌, ◌/◌, ◌%◌, ◌^◌, ◌<◌, ◌≤◌, ◌≢◌, max, Bool, true, false, eqb, List, length, get_or, take, set, refl, sym, ap, ◌∙◌, subst, arith, inl, inr, count_by, w64}
use Rattle.std.specs.Prelude.{count_ones, ◌==◌, ◌&&◌, bit_and, bit_or}
use Rattle.std.specs.Int.{bit_at}
use mir.Val.{bool_byte}
use Rattle.std.specs.List.{range_with_len}
use Rattle.std.proofs.lemmas.Bool.{cases_lt, cases_eq, lt-ltb, eqb-false}
use Rattle.std.proofs.lemmas.List.{length-take, get_or-take, get_or_past}
use Rattle.std.proofs.lemmas.List.Sums.{count_by-le-length}
use Rattle.std.proofs.lemmas.List.FromFn.{take-map-range_with_len}
use Rattle.std.proofs.lemmas.Nat.{and_mask, one_shl, pow_pos}
use Rattle.std.proofs.lemmas.Nat.Bits.{bit_at-lt, bit_at-zero, bit_at_or, bit_at_set_same, bit_at_set_other}
use Rattle.gq_bits.specs.steps.Bits.{bit_of, bits_of}
use Rattle.gq_bits.proofs.Words.{test-bit_and, length-bits_of, bit_of-set_same, bit_of-set_other}
use Rattle.gq_bits.proofs.Search.{low_part}
use Rattle.gq_bits.proofs.Counts.{count_by-map, count_part}

-- the low bits of a word, by a mask
low_word : (w r : ℕ) → r < 64 → bit_and w (1 * 2 ^ r % 2 ^ 64 - 1) ≡ w % 2 ^ r
low_word w r h = ap (λ v. bit_and w (v - 1)) (one_shl r 64 h) ∙ and_mask w r

kept : (b t : Bool) → t ≡ true → (b && t) ≡ b
kept true t e = e
kept false t e = refl

-- the ones before a place are those of the words before, and those of the part of its word
pub rank_is : (count : ℕ) (ws : List ℕ) (place : ℕ) → place ≤ count →
    count_by (λ on. on) (take place (bits_of count ws)) ≡ count_by (λ on. on) (bits_of (64 * (place / 64)) ws) + count_ones (bit_and (get_or ws (place / 64) 0) (1 * 2 ^ (place % 64) % 2 ^ 64 - 1))
rank_is count ws place h =
    let q : ℕ = place / 64 in
    let r : ℕ = place % 64 in
    let w : ℕ = get_or ws q 0 in
    let v : ℕ = bit_and w (1 * 2 ^ r % 2 ^ 64 - 1) in
    let short : r < 64 = omega arith in
    let split : place ≡ 64 * q + r = omega arith in
    let fits : v < 2 ^ r = omega (arith, low_word w r short, pow_pos r) in
    ap (count_by (λ on. on)) (take-map-range_with_len (bit_of ws) 0 count place h) ∙ count_by-map (bit_of ws) (range_with_len 0 place)
    ∙ ap (λ n. count_by (bit_of ws) (range_with_len 0 n)) split
    ∙ count_part ws q r v (omega arith) fits (λ i low. test-bit_and w (1 * 2 ^ r % 2 ^ 64 - 1) i ∙ kept (eqb (bit_at w i) 1) (eqb (bit_at (1 * 2 ^ r % 2 ^ 64 - 1) i) 1) (low_part r i short ∙ lt-ltb i r low))
    ∙ ap (λ a. a + count_ones v) (sym (count_by-map (bit_of ws) (range_with_len 0 (64 * q))))

-- at most as many as there are places before
pub rank_le : (place : ℕ) (bits : List Bool) → count_by (λ on. on) (take place bits) ≤ place
rank_le place bits = omega (arith, count_by-le-length (λ on. on) (take place bits), length-take place bits)

-- one more whole word
pub ones_more : (ws : List ℕ) (k : ℕ) → get_or ws k 0 < 2 ^ 64 →
    count_by (λ on. on) (bits_of (64 * (k + 1)) ws) ≡ count_by (λ on. on) (bits_of (64 * k) ws) + count_ones (get_or ws k 0)
ones_more ws k fit =
    let e : 64 * (k + 1) ≡ 64 * k + 64 = omega arith in
    count_by-map (bit_of ws) (range_with_len 0 (64 * (k + 1))) ∙ ap (λ n. count_by (bit_of ws) (range_with_len 0 n)) e
    ∙ count_part ws k 64 (get_or ws k 0) (omega arith) fit (λ i w. refl)
    ∙ ap (λ a. a + count_ones (get_or ws k 0)) (sym (count_by-map (bit_of ws) (range_with_len 0 (64 * k))))

pub ones_le : (ws : List ℕ) (n : ℕ) → count_by (λ on. on) (bits_of n ws) ≤ n
ones_le ws n = omega (arith, count_by-le-length (λ on. on) (bits_of n ws), length-bits_of n ws)

-- a bit put into a word at a place that is free
or_same : (w r : ℕ) (b : Bool) → r < 64 → bit_at w r ≡ 0 → (bit_at (bit_or w (bool_byte b * 2 ^ r % 2 ^ 64)) r == 1) ≡ b
or_same w r true h free = ap (λ v. eqb v 1) (bit_at_set_same w64 w r h)
or_same w r false h free =
    let none : 0 * 2 ^ r % 2 ^ 64 ≡ 0 = omega arith in
    ap (λ x. eqb (bit_at (bit_or w x) r) 1) none ∙ ap (λ v. eqb v 1) (bit_at_or w 0 r ∙ ap (λ v. max v (bit_at 0 r)) free ∙ ap (λ v. max 0 v) (bit_at-zero r))

or_other : (w r i : ℕ) (b : Bool) → r < 64 → i ≢ r → bit_at (bit_or w (bool_byte b * 2 ^ r % 2 ^ 64)) i ≡ bit_at w i
or_other w r i true h ne = bit_at_set_other w64 w r h i ne
or_other w r i false h ne =
    let none : 0 * 2 ^ r % 2 ^ 64 ≡ 0 = omega arith in
    let plain : max (bit_at w i) 0 ≡ bit_at w i = omega arith in
    ap (λ x. bit_at (bit_or w x) i) none ∙ bit_at_or w 0 i ∙ ap (λ v. max (bit_at w i) v) (bit_at-zero i) ∙ plain

-- one more bit of a list is packed
pub packed_more : (ws : List ℕ) (bits : List Bool) (place : ℕ) → place < length bits → place / 64 < length ws → ((k : ℕ) → bit_of ws k ≡ get_or (take place bits) k false) →
    (k : ℕ) → bit_of (set ws (place / 64) (bit_or (get_or ws (place / 64) 0) (bool_byte (get_or bits place false) * 2 ^ (place % 64) % 2 ^ 64))) k ≡ get_or (take (place + 1) bits) k false
packed_more ws bits place h near packed k = elim (cases_eq k place) [
  | inl same ↦ subst (λ j. bit_of (set ws n v) j ≡ get_or (take (place + 1) bits) j false) (sym same)
      (bit_of-set_same ws n v place near refl ∙ or_same w r b (omega arith) free ∙ sym (get_or-take (place + 1) bits place false (omega arith)))
  | inr other ↦ word other ∙ packed k ∙ elim (cases_lt k place) [
    | inl before ↦ get_or-take place bits k false before ∙ sym (get_or-take (place + 1) bits k false (omega arith))
    | inr after ↦ get_or_past (take place bits) k false (omega (arith, length-take place bits)) ∙ sym (get_or_past (take (place + 1) bits) k false (omega (arith, length-take (place + 1) bits, other)))
  ]
]
  where
    n : ℕ
    n = place / 64

    r : ℕ
    r = place % 64

    b : Bool
    b = get_or bits place false

    w : ℕ
    w = get_or ws (place / 64) 0

    v : ℕ
    v = bit_or w (bool_byte b * 2 ^ r % 2 ^ 64)

    free : bit_at w r ≡ 0
    free =
        let unset : eqb (bit_at w r) 1 ≡ false = packed place ∙ get_or_past (take place bits) place false (omega (arith, length-take place bits)) in
        omega (arith, bit_at-lt w r, eqb-false (bit_at w r) 1 unset)

    word : k ≢ place → bit_of (set ws n v) k ≡ bit_of ws k
    word other = elim (cases_eq (k / 64) n) [
      | inl same ↦ bit_of-set_same ws n v k near same ∙ ap (λ x. eqb x 1) (or_other w r (k % 64) b (omega arith) (λ e. other (omega arith)))
          ∙ ap (λ j. eqb (bit_at (get_or ws j 0) (k % 64)) 1) (sym same)
      | inr ne ↦ bit_of-set_other ws n v k ne
    ]
