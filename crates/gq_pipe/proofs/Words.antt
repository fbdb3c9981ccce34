-- A column is filled at the places that the bits of a word tell, from the lowest bit on.
use Rattle.std.proofs.Common.{◌≡◌, ◌≢◌, ◌⊎◌, ◌∙◌, inl, inr, ℕ, ◌+◌, ◌*◌, ◌/◌, ◌%◌, ◌^◌, ◌<◌, refl, sym, ap, subst, arith, w64}
use Rattle.std.specs.Prelude.{bit_and}
use Rattle.std.specs.Int.{bit_at, bit_not, trailing_zeros}
use Rattle.std.proofs.lemmas.Bool.{cases_eq}
use Rattle.std.proofs.lemmas.Nat.{and_le_l}
use Rattle.std.proofs.lemmas.Nat.Bits.{bit_at-trailing_zeros, bit_at-zero, bit_at_clear_other, bit_at_clear_same}
use Rattle.gq_pool.specs.Pool.{Pool, IsOut, cell_at, cells_of}
use Rattle.gq_pipe.specs.Serving.{HasCell}
use Rattle.gq_pipe.specs.steps.Origins.{CanRead, row_from}
use Rattle.gq_pipe.specs.declared.origins.Origin.{Origin}
use Rattle.gq_pipe.proofs.Supplied.{can_still, row_still}

-- the word without its lowest bit
abbrev pub rest_of : ℕ → ℕ
rest_of word = bit_and word (bit_not w64 (1 * 2 ^ trailing_zeros w64 word % 2 ^ 64))

-- the bits that are left of a word are bits of it, and the cells of the others are filled
pub record AreFilled (s : Origin) (slot index word rest : ℕ) (old new : Pool) : Type 0 where
  pub bits : (i : ℕ) → i < 64 → bit_at rest i ≡ 1 → bit_at word i ≡ 1
  pub cells : (i : ℕ) → i < 64 → bit_at word i ≡ 1 → (bit_at rest i ≡ 1) ⊎ HasCell new slot (64 * index + i) (row_from s old (64 * index + i))
  pub other_cells : (p : ℕ) → p / 64 ≢ index → cell_at new slot p ≡ cell_at old slot p
  pub other_slots : (t : ℕ) → t ≢ slot → cells_of new t ≡ cells_of old t
  pub same_out : new.out ≡ old.out
  pub still_out : (t : ℕ) → IsOut old t → IsOut new t

pub fills_none : (s : Origin) (slot index word : ℕ) (old : Pool) → AreFilled s slot index word word old old
fills_none s slot index word old = record {
  bits = λ i low on. on;
  cells = λ i low on. inl on;
  other_cells = λ p other. refl;
  other_slots = λ t other. refl;
  same_out = refl;
  still_out = λ t out. out;
}

pub fills_all : (s : Origin) (slot index word rest : ℕ) (old new : Pool) → AreFilled s slot index word rest old new → rest ≡ 0 → (i : ℕ) → i < 64 → bit_at word i ≡ 1 → HasCell new slot (64 * index + i) (row_from s old (64 * index + i))
fills_all s slot index word rest old new f none i low on = go (f.cells i low on)
  where
    go : (bit_at rest i ≡ 1) ⊎ HasCell new slot (64 * index + i) (row_from s old (64 * index + i)) → HasCell new slot (64 * index + i) (row_from s old (64 * index + i))
    go (inl left) = absurd (let zero : bit_at rest i ≡ 0 = ap (λ n. bit_at n i) none ∙ bit_at-zero i in omega (arith, left, zero))
    go (inr has) = has

module _ (s : Origin) (slot index word rest : ℕ) (old mid : Pool) (f : AreFilled s slot index word rest old mid) (some : 0 < rest) (fits : rest < 2 ^ 64)
    (can : (i : ℕ) → i < 64 → bit_at word i ≡ 1 → CanRead s old slot (64 * index + i)) where
  abbrev pub lowest : ℕ
  lowest = trailing_zeros w64 rest

  pub lowest_low : lowest < 64
  lowest_low = (bit_at-trailing_zeros w64 rest some fits).0

  lowest_on : bit_at word lowest ≡ 1
  lowest_on = f.bits lowest lowest_low (bit_at-trailing_zeros w64 rest some fits).1

  -- the next cell can be filled
  pub can_next : CanRead s mid slot (64 * index + lowest)
  can_next = can_still old mid slot f.other_slots f.still_out s (64 * index + lowest) (can lowest lowest_low lowest_on)

  pub row_next : row_from s mid (64 * index + lowest) ≡ row_from s old (64 * index + lowest)
  row_next = row_still old mid slot f.other_slots f.still_out s (64 * index + lowest) (can lowest lowest_low lowest_on)

  -- and then fewer bits are left
  pub fewer : rest_of rest < rest
  fewer = go (cases_eq (rest_of rest) rest)
    where
      go : (rest_of rest ≡ rest) ⊎ (rest_of rest ≡ rest → ⊥) → rest_of rest < rest
      go (inl same) =
          let off : bit_at rest lowest ≡ 0 = ap (λ n. bit_at n lowest) (sym same) ∙ bit_at_clear_same w64 rest lowest lowest_low in
          let on = (bit_at-trailing_zeros w64 rest some fits).1 in
          absurd (omega (arith, off, on))
      go (inr other) = let most = and_le_l rest (bit_not w64 (1 * 2 ^ trailing_zeros w64 rest % 2 ^ 64)) in omega (arith, most, other)

  module _ (new : Pool) (row : ℕ) (is : row ≡ row_from s mid (64 * index + lowest)) (put : HasCell new slot (64 * index + lowest) row) (other_cells : (p : ℕ) → p ≢ 64 * index + lowest → cell_at new slot p ≡ cell_at mid slot p)
      (other_slots : (t : ℕ) → t ≢ slot → cells_of new t ≡ cells_of mid t) (same_out : new.out ≡ mid.out) (still_out : (t : ℕ) → IsOut mid t → IsOut new t) where
    filled_now : HasCell new slot (64 * index + lowest) (row_from s old (64 * index + lowest))
    filled_now = subst (HasCell new slot (64 * index + lowest)) (is ∙ row_next) put

    pub fills_more : AreFilled s slot index word (rest_of rest) old new
    fills_more = record {
      bits = λ i low on. bits i low on (cases_eq i lowest);
      cells = λ i low on. cells i low (f.cells i low on) (cases_eq i lowest);
      other_cells = λ p other. (let low = lowest_low in other_cells p (λ e. other (omega (arith, e, low))) ∙ f.other_cells p other);
      other_slots = λ t other. other_slots t other ∙ f.other_slots t other;
      same_out = same_out ∙ f.same_out;
      still_out = λ t out. still_out t (f.still_out t out);
    }
      where
        bits : (i : ℕ) → i < 64 → bit_at (rest_of rest) i ≡ 1 → (i ≡ lowest) ⊎ (i ≡ lowest → ⊥) → bit_at word i ≡ 1
        bits i low on (inl same) =
            let off : bit_at (rest_of rest) i ≡ 0 = ap (bit_at (rest_of rest)) same ∙ bit_at_clear_same w64 rest lowest lowest_low in
            absurd (omega (arith, on, off))
        bits i low on (inr other) = f.bits i low (sym (bit_at_clear_other w64 rest lowest lowest_low i low other) ∙ on)

        cells : (i : ℕ) → i < 64 → (bit_at rest i ≡ 1) ⊎ HasCell mid slot (64 * index + i) (row_from s old (64 * index + i)) → (i ≡ lowest) ⊎ (i ≡ lowest → ⊥)
            → (bit_at (rest_of rest) i ≡ 1) ⊎ HasCell new slot (64 * index + i) (row_from s old (64 * index + i))
        cells i low had (inl same) = inr (subst (λ n. HasCell new slot (64 * index + n) (row_from s old (64 * index + n))) (sym same) filled_now)
        cells i low (inl left) (inr other) = inl (bit_at_clear_other w64 rest lowest lowest_low i low other ∙ left)
        cells i low (inr has) (inr other) =
            let apart : 64 * index + i ≢ 64 * index + lowest = λ e. other (omega (arith, e)) in
            inr (record { is = other_cells (64 * index + i) apart ∙ has.is; few = has.few })
