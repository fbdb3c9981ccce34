use Rattle.std.proofs.Common.{◌*◌, ◌<◌, ◌/◌, ◌%◌, ℕ, length, get_or, set, sym, ap, ◌∙◌, arith, eqb, w64}
use Rattle.std.proofs.lemmas.List.{length-set}
use Rattle.std.proofs.lemmas.Nat.Bits.{bit_at_set_same, bit_at_set_other, bit_at_clear_same, bit_at_clear_other}
use Rattle.std.specs.Int.{bit_at}
use Rattle.gq_bits.proofs.Words.{bits_of-set, length-bits_of}
use Rattle.gq_bits.proofs.vector_marks.Marks.set.Goals as goal
use Rattle.gq_bits.proofs.vector_marks.Marks.set.Goals.{then-on, else-on}

pub returns-clause-whole : goal.returns-clause-whole
returns-clause-whole c =
    let words = set c.self.inside.words (c.args.place / 64) c.if-on.self in
    omega (arith, length-bits_of (64 * length words) words, length-set c.self.inside.words (c.args.place / 64) c.if-on.self, c.self.told)

pub returns-clause-written : goal.returns-clause-written
returns-clause-written c =
    let inside : c.args.place < 64 * length c.self.inside.words = omega (arith, c.self.told) in
    let k : ℕ = c.args.place % 64 in
    let word : ℕ = get_or c.self.inside.words (c.args.place / 64) 0 in
    let bit : k < 64 = omega arith in
    rw (← c.self.view_is) (elim c.if-on.branch [
      | then-on w ↦ bits_of-set c.self.inside.words c.args.place c.if-on.self c.args.on inside
          (ap (λ v. eqb (bit_at v k) 1) w.self-is ∙ ap (λ b. eqb b 1) (bit_at_set_same w64 word k bit) ∙ sym w.if-on.true)
          (λ i h ne. ap (λ v. bit_at v i) w.self-is ∙ bit_at_set_other w64 word k bit i ne)
      | else-on w ↦ bits_of-set c.self.inside.words c.args.place c.if-on.self c.args.on inside
          (ap (λ v. eqb (bit_at v k) 1) w.self-is ∙ ap (λ b. eqb b 1) (bit_at_clear_same w64 word k bit) ∙ sym w.if-on.false)
          (λ i h ne. ap (λ v. bit_at v i) w.self-is ∙ bit_at_clear_other w64 word k bit i h ne)
    ])
