-- Marks that are kept word by word, and the bits of masks.
use Rattle.std.proofs.Common.{◌≡◌, ℕ, ◌+◌, ◌-◌, ◌*◌, ◌/◌, ◌%◌, ◌<◌, ◌≤◌, min, Bool, true, false, cond, List, length, get_or, take, drop, refl, sym, ap, ◌∙◌, arith, inl, inr}
use Rattle.std.specs.Prelude.{◌==◌, ◌&&◌, bit_and}
use Rattle.std.specs.Int.{bit_at}
use Rattle.std.proofs.lemmas.Bool.{cases_lt, cases_eq, eq-eqb, ne_eqb}
use Rattle.std.proofs.lemmas.List.{get_or-take, get_or-drop, length-take, length-drop, take_min}
use Rattle.gq_bits.specs.Places.{is_marked, allows}
use Rattle.gq_bits.proofs.Words.{test-bit_and}

-- the places of the first n words were kept where the test holds, and the others stay
pub record Kept (test : ℕ → Bool) (n : ℕ) (old new : List Bool) : Type 0 where
  pub done : (k : ℕ) → k < 64 * n → is_marked new k ≡ (is_marked old k && test k)
  pub rest : (k : ℕ) → 64 * n ≤ k → is_marked new k ≡ is_marked old k

pub kept_none : (test : ℕ → Bool) (marks : List Bool) → Kept test 0 marks marks
kept_none test marks = record { done = λ k h. absurd (omega arith); rest = λ k h. refl }

and-true : (b : Bool) → (b && true) ≡ b
and-true true = refl
and-true false = refl

pub kept_more : (test : ℕ → Bool) (n len mask : ℕ) (old new after : List Bool) → Kept test n old new → ((k : ℕ) → len ≤ k → is_marked old k ≡ false) →
    ((i : ℕ) → i < 64 → 64 * n + i < len → (bit_at mask i == 1) ≡ test (64 * n + i)) → ((k : ℕ) → is_marked after k ≡ (is_marked new k && allows n mask k)) → Kept test (n + 1) old after
kept_more test n len mask old new after kept past bits step = record {
  done = λ k h. elim (cases_eq (k / 64) n) [
    | inl same ↦ step k ∙ ap (λ t. is_marked new k && cond t (bit_at mask (k % 64) == 1) true) (eq-eqb (k / 64) n same) ∙ ap (λ b. b && (bit_at mask (k % 64) == 1)) (kept.rest k (omega arith)) ∙ here k same
    | inr ne ↦ step k ∙ ap (λ t. is_marked new k && cond t (bit_at mask (k % 64) == 1) true) (ne_eqb (k / 64) n ne) ∙ and-true (is_marked new k) ∙ kept.done k (omega arith)
  ];
  rest = λ k h. step k ∙ ap (λ t. is_marked new k && cond t (bit_at mask (k % 64) == 1) true) (ne_eqb (k / 64) n (λ e. omega arith)) ∙ and-true (is_marked new k) ∙ kept.rest k (omega arith);
}
  where
    here : (k : ℕ) → k / 64 ≡ n → (is_marked old k && (bit_at mask (k % 64) == 1)) ≡ (is_marked old k && test k)
    here k same = elim (cases_lt k len) [
      | inl low ↦
          let at : 64 * n + k % 64 ≡ k = omega arith in
          ap (λ b. is_marked old k && b) (bits (k % 64) (omega arith) (omega arith) ∙ ap test at)
      | inr high ↦ ap (λ b. b && (bit_at mask (k % 64) == 1)) (past k high) ∙ ap (λ b. b && test k) (sym (past k high))
    ]

pub kept_all : (test : ℕ → Bool) (n len : ℕ) (old new : List Bool) → Kept test n old new → len ≤ 64 * n → ((k : ℕ) → len ≤ k → is_marked old k ≡ false) →
    (k : ℕ) → is_marked new k ≡ (is_marked old k && test k)
kept_all test n len old new kept all past k = elim (cases_lt k (64 * n)) [
  | inl low ↦ kept.done k low
  | inr high ↦ kept.rest k high ∙ past k (omega arith) ∙ ap (λ b. b && test k) (sym (past k (omega arith)))
]

-- an item of a part
pub get_or-part : {X : Type 0} (items : List X) (n i : ℕ) (d : X) → i < 64 → get_or (take 64 (drop (64 * n) items)) i d ≡ get_or items (64 * n + i) d
get_or-part items n i d h = get_or-take 64 (drop (64 * n) items) i d h ∙ get_or-drop (64 * n) items i d

-- the places from i on, as many as there are up to 64
pub part_is : {X : Type 0} (items : List X) (i count : ℕ) → i ≤ length items → count ≡ min (length items - i) 64 → take (i + count - i) (drop i items) ≡ take 64 (drop i items)
part_is items i count h e =
    let n : i + count - i ≡ min 64 (length (drop i items)) = omega (arith, e, length-drop i items) in
    ap (λ k. take k (drop i items)) n ∙ take_min 64 (drop i items)

pub length-part : {X : Type 0} (items : List X) (n : ℕ) → length (take 64 (drop (64 * n) items)) ≡ min 64 (length items - 64 * n)
length-part items n = omega (arith, length-take 64 (drop (64 * n) items), length-drop (64 * n) items)

-- a mask of the places that are known and pass a test
pub known_bits : (p : ℕ → Bool) (n len word mask : ℕ) (known : List Bool) → ((i : ℕ) → i < 64 → (bit_at word i == 1) ≡ is_marked known (64 * n + i)) →
    ((i : ℕ) → i < 64 → 64 * n + i < len → (bit_at mask i == 1) ≡ p (64 * n + i)) →
    (i : ℕ) → i < 64 → 64 * n + i < len → (bit_at (bit_and word mask) i == 1) ≡ (is_marked known (64 * n + i) && p (64 * n + i))
known_bits p n len word mask known words bits i h w =
    test-bit_and word mask i ∙ ap (λ b. b && (bit_at mask i == 1)) (words i h) ∙ ap (λ b. is_marked known (64 * n + i) && b) (bits i h w)
