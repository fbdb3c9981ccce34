-- Bits in words of 64: a bit at a place, a word replaced, words combined bit by bit.
use Rattle.std.proofs.Common.{◌≡◌, ◌≢◌, ℕ, zero, suc, ◌+◌, ◌-◌, ◌*◌, ◌/◌, ◌%◌, ◌^◌, ◌<◌, ◌≤◌, min, Bool, true, false, not, cond, eqb, List, length, get_or, set, replicate, refl, sym, ap, ◌∙◌, subst, arith, inl, inr, w64}
use Rattle.std.specs.Prelude.{◌==◌, ◌&&◌, bit_and}
use Rattle.std.specs.Int.{bit_at, bit_not}
use Rattle.std.proofs.lemmas.Bool.{cases_lt, cases_eq, eq-eqb, ne_eqb}
use Rattle.std.proofs.lemmas.List.{same_lists, length-set, get_or-set_same, get_or-set_other, get_or_past, get_or-replicate, length-replicate}
use Rattle.std.proofs.lemmas.List.FromFn.{length-map-range_with_len, get_or-map-range_with_len}
use Rattle.std.proofs.lemmas.Nat.Bits.{bit_at_and, bit_at-lt, bit_at-zero, bit_at_not}
use Rattle.gq_bits.specs.steps.Bits.{bit_of, bits_of}
use Rattle.gq_bits.specs.Places.{is_marked, allows}

pub length-bits_of : (n : ℕ) (ws : List ℕ) → length (bits_of n ws) ≡ n
length-bits_of n ws = length-map-range_with_len (bit_of ws) 0 n

pub get_or-bits_of : (n : ℕ) (ws : List ℕ) (i : ℕ) (d : Bool) → i < n → get_or (bits_of n ws) i d ≡ bit_of ws i
get_or-bits_of n ws i d h = get_or-map-range_with_len (bit_of ws) 0 n i i d h (omega arith)

-- past the words there is no bit
pub bit_of-past : (ws : List ℕ) (k : ℕ) → 64 * length ws ≤ k → bit_of ws k ≡ false
bit_of-past ws k h =
    ap (λ w. eqb (bit_at w (k % 64)) 1) (get_or_past ws (k / 64) 0 (omega arith)) ∙ ap (λ b. eqb b 1) (bit_at-zero (k % 64))

-- a place is marked where its bit is set, also past the end
pub is_marked-bits_of : (ws : List ℕ) (k : ℕ) → is_marked (bits_of (64 * length ws) ws) k ≡ bit_of ws k
is_marked-bits_of ws k = elim (cases_lt k (64 * length ws)) [
  | inl low ↦ get_or-bits_of (64 * length ws) ws k false low
  | inr high ↦ get_or_past (bits_of (64 * length ws) ws) k false (omega (arith, length-bits_of (64 * length ws) ws)) ∙ sym (bit_of-past ws k high)
]

pub bit_of-zeros : (n k : ℕ) → bit_of (replicate n 0) k ≡ false
bit_of-zeros n k = elim (cases_lt (k / 64) n) [
  | inl low ↦ ap (λ w. eqb (bit_at w (k % 64)) 1) (get_or-replicate n (k / 64) 0 0 low) ∙ ap (λ b. eqb b 1) (bit_at-zero (k % 64))
  | inr high ↦ bit_of-past (replicate n 0) k (omega (arith, length-replicate n zero))
]

-- the bits after one word was replaced
pub bit_of-set_same : (ws : List ℕ) (i v k : ℕ) → i < length ws → k / 64 ≡ i → bit_of (set ws i v) k ≡ (bit_at v (k % 64) == 1)
bit_of-set_same ws i v k h e =
    ap (λ j. eqb (bit_at (get_or (set ws i v) j 0) (k % 64)) 1) e ∙ ap (λ w. eqb (bit_at w (k % 64)) 1) (get_or-set_same ws i v 0 h)

pub bit_of-set_other : (ws : List ℕ) (i v k : ℕ) → k / 64 ≢ i → bit_of (set ws i v) k ≡ bit_of ws k
bit_of-set_other ws i v k ne = ap (λ w. eqb (bit_at w (k % 64)) 1) (get_or-set_other ws i (k / 64) v 0 ne)

-- one bit of a word was written
pub bits_of-set : (ws : List ℕ) (p v : ℕ) (on : Bool) → p < 64 * length ws → (bit_at v (p % 64) == 1) ≡ on →
    ((i : ℕ) → i < 64 → i ≢ p % 64 → bit_at v i ≡ bit_at (get_or ws (p / 64) 0) i) →
    bits_of (64 * length (set ws (p / 64) v)) (set ws (p / 64) v) ≡ set (bits_of (64 * length ws) ws) p on
bits_of-set ws p v on h here others =
    let n : ℕ = 64 * length ws in
    let ws1 : List ℕ = set ws (p / 64) v in
    let same_len : 64 * length ws1 ≡ n = ap (λ m. 64 * m) (length-set ws (p / 64) v) in
    ap (λ m. bits_of m ws1) same_len ∙
    same_lists (bits_of n ws1) (set (bits_of n ws) p on)
    (length-bits_of n ws1 ∙ sym (length-bits_of n ws) ∙ sym (length-set (bits_of n ws) p on))
    (λ k d w.
    let inside : k < n = omega (arith, length-bits_of n ws1) in
    get_or-bits_of n ws1 k d inside ∙ elim (cases_eq k p) [
      | inl same ↦ subst (λ j. bit_of ws1 j ≡ get_or (set (bits_of n ws) p on) j d) (sym same)
          (bit_of-set_same ws (p / 64) v p (omega arith) refl ∙ here ∙ sym (get_or-set_same (bits_of n ws) p on d (omega (arith, length-bits_of n ws))))
      | inr other ↦ word k other ∙ sym (get_or-bits_of n ws k d inside) ∙ sym (get_or-set_other (bits_of n ws) p k on d other)
    ])
  where
    word : (k : ℕ) → k ≢ p → bit_of (set ws (p / 64) v) k ≡ bit_of ws k
    word k other = elim (cases_eq (k / 64) (p / 64)) [
      | inl same ↦ bit_of-set_same ws (p / 64) v k (omega arith) same
          ∙ ap (λ b. eqb b 1) (others (k % 64) (omega arith) (λ e. other (omega arith)))
          ∙ ap (λ j. eqb (bit_at (get_or ws j 0) (k % 64)) 1) (sym same)
      | inr ne ↦ bit_of-set_other ws (p / 64) v k ne
    ]

-- the words before n were changed bit by bit by f, and the others stay
pub record ChangedBelow (f : ℕ → Bool → Bool) (n : ℕ) (old new : List ℕ) : Type 0 where
  pub size : length new ≡ length old
  pub done : (k : ℕ) → k < 64 * n → bit_of new k ≡ f k (bit_of old k)
  pub rest : (k : ℕ) → 64 * n ≤ k → bit_of new k ≡ bit_of old k

pub changed_none : (f : ℕ → Bool → Bool) (ws : List ℕ) → ChangedBelow f 0 ws ws
changed_none f ws = record { size = refl; done = λ k h. absurd (omega arith); rest = λ k h. refl }

pub changed_more : (f : ℕ → Bool → Bool) (n v : ℕ) (old new : List ℕ) → n < length old → ChangedBelow f n old new →
    ((i : ℕ) → i < 64 → (bit_at v i == 1) ≡ f (64 * n + i) (bit_at (get_or new n 0) i == 1)) → ChangedBelow f (n + 1) old (set new n v)
changed_more f n v old new h c word = record {
  size = length-set new n v ∙ c.size;
  done = λ k w. elim (cases_eq (k / 64) n) [
    | inl same ↦
        let at : 64 * n + k % 64 ≡ k = omega arith in
        bit_of-set_same new n v k (omega (arith, c.size)) same ∙ word (k % 64) (omega arith)
        ∙ ap (λ j. f j (eqb (bit_at (get_or new n 0) (k % 64)) 1)) at ∙ ap (λ j. f k (eqb (bit_at (get_or new j 0) (k % 64)) 1)) (sym same)
        ∙ ap (f k) (c.rest k (omega arith))
    | inr ne ↦ bit_of-set_other new n v k ne ∙ c.done k (omega arith)
  ];
  rest = λ k w. bit_of-set_other new n v k (λ e. omega arith) ∙ c.rest k (omega arith);
}

pub changed_all : (f : ℕ → Bool → Bool) (n : ℕ) (old new : List ℕ) → length old ≤ n → ((k : ℕ) → f k false ≡ false) → ChangedBelow f n old new →
    (k : ℕ) → bit_of new k ≡ f k (bit_of old k)
changed_all f n old new h none c k = elim (cases_lt k (64 * n)) [
  | inl low ↦ c.done k low
  | inr high ↦ let past : bit_of old k ≡ false = bit_of-past old k (omega arith) in c.rest k high ∙ past ∙ sym (none k) ∙ ap (f k) (sym past)
]

bit_test-and : (a b : ℕ) → a < 2 → b < 2 → (min a b == 1) ≡ ((a == 1) && (b == 1))
bit_test-and zero b h k = let e : min 0 b ≡ 0 = omega arith in ap (λ x. eqb x 1) e
bit_test-and (suc zero) zero h k = refl
bit_test-and (suc zero) (suc zero) h k = refl
bit_test-and (suc zero) (suc (suc b)) h k = absurd (omega arith)
bit_test-and (suc (suc a)) b h k = absurd (omega arith)

pub test-bit_and : (a b i : ℕ) → (bit_at (bit_and a b) i == 1) ≡ ((bit_at a i == 1) && (bit_at b i == 1))
test-bit_and a b i = ap (λ x. eqb x 1) (bit_at_and a b i) ∙ bit_test-and (bit_at a i) (bit_at b i) (bit_at-lt a i) (bit_at-lt b i)

bit_test-not : (a : ℕ) → a < 2 → (1 - a == 1) ≡ not (a == 1)
bit_test-not zero h = refl
bit_test-not (suc zero) h = refl
bit_test-not (suc (suc a)) h = absurd (omega arith)

pub test-bit_not : (a i : ℕ) → a < 2 ^ 64 → i < 64 → (bit_at (bit_not w64 a) i == 1) ≡ not (bit_at a i == 1)
test-bit_not a i fits h = ap (λ x. eqb x 1) (bit_at_not w64 a i fits h) ∙ bit_test-not (bit_at a i) (bit_at-lt a i)

and-true : (b : Bool) → (b && true) ≡ b
and-true true = refl
and-true false = refl

-- one word was masked
pub bit_of-keep : (ws : List ℕ) (i mask k : ℕ) → i < length ws → bit_of (set ws i (bit_and (get_or ws i 0) mask)) k ≡ (bit_of ws k && allows i mask k)
bit_of-keep ws i mask k h = elim (cases_eq (k / 64) i) [
  | inl same ↦ bit_of-set_same ws i (bit_and (get_or ws i 0) mask) k h same ∙ test-bit_and (get_or ws i 0) mask (k % 64)
      ∙ ap (λ j. eqb (bit_at (get_or ws j 0) (k % 64)) 1 && eqb (bit_at mask (k % 64)) 1) (sym same)
      ∙ ap (λ t. bit_of ws k && cond t (eqb (bit_at mask (k % 64)) 1) true) (sym (eq-eqb (k / 64) i same))
  | inr ne ↦ bit_of-set_other ws i (bit_and (get_or ws i 0) mask) k ne ∙ sym (and-true (bit_of ws k))
      ∙ ap (λ t. bit_of ws k && cond t (eqb (bit_at mask (k % 64)) 1) true) (sym (ne_eqb (k / 64) i ne))
]

-- bit i of word n
pub word_bit : (ws : List ℕ) (n i : ℕ) → i < 64 → bit_of ws (64 * n + i) ≡ (bit_at (get_or ws n 0) i == 1)
word_bit ws n i h =
    let word : (64 * n + i) / 64 ≡ n = omega arith in
    let bit : (64 * n + i) % 64 ≡ i = omega arith in
    ap (λ j. eqb (bit_at (get_or ws j 0) ((64 * n + i) % 64)) 1) word ∙ ap (λ j. eqb (bit_at (get_or ws n 0) j) 1) bit
