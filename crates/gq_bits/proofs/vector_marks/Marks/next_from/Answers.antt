use Rattle.std.proofs.Common.{◌≡◌, ◌*◌, ◌+◌, ◌∙◌, arith}
use Rattle.std.specs.Int.{trailing_zeros}
use Rattle.std.proofs.Common.{w64}
use Rattle.gq_bits.proofs.Words.{is_marked-bits_of, bit_of-past}
use Rattle.gq_bits.proofs.Search.{sought_first, sought_next, sought_none, sought_found}
use Rattle.gq_bits.proofs.vector_marks.Marks.next_from.Goals as goal

pub returns-then-place-ge-VECTOR-clause-found : goal.returns-then-place-ge-VECTOR-clause-found
returns-then-place-ge-VECTOR-clause-found c = λ k h.
    rw (← c.self.view_is) (is_marked-bits_of c.self.inside.words k ∙ bit_of-past c.self.inside.words k (omega (arith, c.self.told, c.if-place-ge-VECTOR.true)))

pub loop-word-init : goal.loop-word-init
loop-word-init c =
    (sought_first c.self.inside.words c.args.place (omega (arith, c.self.told, c.if-place-ge-VECTOR.false)) (omega (arith, c.type_inv)), omega arith)

pub returns-then-index-eq-WORDS-clause-found : goal.returns-then-index-eq-WORDS-clause-found
returns-then-index-eq-WORDS-clause-found c = λ k h.
    let empty : c.loop-word.word ≡ 0 = omega (arith, c.loop-word-test.true) in
    rw (← c.self.view_is) (is_marked-bits_of c.self.inside.words k
    ∙ sought_none c.self.inside.words c.args.place c.loop-word.index (rw empty at c.loop-word.invariant.0) (omega (arith, c.self.told, c.if-index-eq-WORDS.true)) k h)

pub loop-word-preserved : goal.loop-word-preserved
loop-word-preserved c =
    let empty : c.loop-word.word ≡ 0 = omega (arith, c.loop-word-test.true) in (
      sought_next c.self.inside.words c.args.place c.loop-word.index (rw empty at c.loop-word.invariant.0)
          (omega (arith, c.self.told, c.if-index-eq-WORDS.false, c.loop-word.invariant.0.inside)) c.loop-word.invariant.1 (omega (arith, c.type_inv)),
      omega (arith, c.loop-word.invariant.1),
    )

pub returns-clause-found : goal.returns-clause-found
returns-clause-found c =
    let next = sought_found c.self.inside.words c.args.place c.loop-word.index c.loop-word.word c.loop-word.invariant.0 (omega (arith, c.loop-word-test.false)) in
    (next.after, rw (← c.self.view_is) (is_marked-bits_of c.self.inside.words (64 * c.loop-word.index + trailing_zeros w64 c.loop-word.word) ∙ next.is_set))

pub returns-clause-least : goal.returns-clause-least
returns-clause-least c = λ k a b.
    let next = sought_found c.self.inside.words c.args.place c.loop-word.index c.loop-word.word c.loop-word.invariant.0 (omega (arith, c.loop-word-test.false)) in
    rw (← c.self.view_is) (is_marked-bits_of c.self.inside.words k ∙ next.least k a b)
