use Rattle.std.proofs.Common.{◌≡◌, ◌*◌, ◌/◌, ◌%◌, ◌-◌, ◌^◌, ℕ, length, ap, sym, ◌∙◌, refl, arith}
use Rattle.std.proofs.lemmas.Bool.{le-ltb}
use Rattle.std.specs.Prelude.{nat_lt}
use Rattle.std.proofs.lemmas.List.{length-set}
use Rattle.gq_bits.specs.declared.TheConstants.{VECTOR}
use Rattle.gq_bits.specs.steps.Bits.{bit_of}
use Rattle.gq_bits.proofs.Words.{is_marked-bits_of, length-bits_of, bit_of-zeros}
use Rattle.gq_bits.proofs.Search.{first_more, low_bits, low_part}
use Rattle.gq_bits.proofs.vector_marks.Marks.first.Goals as goal
use Rattle.gq_bits.proofs.vector_marks.Marks.first.Goals.{then-count-ne0, else-count-ne0}

pub loop-index-init : goal.loop-index-init
loop-index-init c = record { size = refl; below = λ k. bit_of-zeros (VECTOR / 64) k ∙ sym (le-ltb k (64 * 0) (omega arith)) }

pub loop-index-preserved : goal.loop-index-preserved
loop-index-preserved c =
    let at : ℕ = c.loop-index.index in
    record {
      size = length-set c.loop-index.words at (2 ^ 64 - 1) ∙ c.loop-index.invariant.size;
      below = λ k. first_more c.loop-index.words at 64 (2 ^ 64 - 1) (omega (arith, c.loop-index.invariant.size, c.requires, c.loop-index-test.true)) (omega arith) (λ i h. low_bits 64 i) c.loop-index.invariant.below k ∙ ap (nat_lt k) (omega arith);
    }

pub returns-clause-whole : goal.returns-clause-whole
returns-clause-whole c =
    let same : length c.if-count-ne0.words ≡ VECTOR / 64 = elim c.if-count-ne0.branch [
      | then-count-ne0 w ↦ ap length w.words-is ∙ length-set c.loop-index.words (c.args.count / 64) _ ∙ c.loop-index.invariant.size
      | else-count-ne0 w ↦ ap length w.words-is ∙ c.loop-index.invariant.size
    ] in
    omega (arith, length-bits_of (64 * length c.if-count-ne0.words) c.if-count-ne0.words, same)

pub returns-clause-below : goal.returns-clause-below
returns-clause-below c = λ k. is_marked-bits_of c.if-count-ne0.words k ∙ elim c.if-count-ne0.branch [
  | then-count-ne0 w ↦ ap (λ ws. bit_of ws k) w.words-is
      ∙ first_more c.loop-index.words (c.args.count / 64) (c.args.count % 64) _ (omega (arith, c.loop-index.invariant.size, c.requires, w.if-count-ne0.true)) (omega arith)
      (λ i h. low_part (c.args.count % 64) i (omega arith)) (λ j. c.loop-index.invariant.below j ∙ ap (λ n. nat_lt j (64 * n)) (omega arith)) k ∙ ap (nat_lt k) (omega arith)
  | else-count-ne0 w ↦ ap (λ ws. bit_of ws k) w.words-is ∙ c.loop-index.invariant.below k ∙ ap (nat_lt k) (omega arith)
]
