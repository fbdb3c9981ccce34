use Rattle.std.proofs.Common.{◌≡◌, ◌<◌, ◌+◌, ◌-◌, ◌*◌, ℕ, min, length, subst, arith}
use Rattle.std.specs.Prelude.{slice_range}
use Rattle.std.proofs.lemmas.Grind.{div_ceil_times}
use Rattle.gq_column.specs.Cells.{cell_at}
use Rattle.gq_column.proofs.Filled.{Filled, filled_block, filled_all, cell-span, length-span}
use Rattle.gq_column.proofs.Column.gather_span_with_nulls.Goals as goal

pub loop-index-preserved : goal.loop-index-preserved
loop-index-preserved c =
    let start = c.args.low in
    let count : ℕ = c.args.high - c.args.low in
    let cells = slice_range c.args.self.now start c.args.high in
    let cell = λ (k : ℕ). cell_at c.args.self.now (start + k) in
    let size : length cells ≡ count = length-span c.args.self.now start c.args.high c.requires.ordered c.requires.inside in
    let low : ℕ = 64 * c.loop-index.index in
    let more : low < count = omega (arith, c.loop-index-test.true, c.div_ceil-index-end.ensures, div_ceil_times count 64 (omega arith)) in
    let begun : min count low ≡ low = omega (arith, more) in
    let high : c.min-end.result ≡ min count (64 * (c.loop-index.index + 1)) = omega (arith, c.min-end.ensures) in
    subst (λ m. Filled cells m c.args.out.now c.gather_span_block-word.new.out c.keep_word.new.self) high
    (filled_block cells cell c.loop-index.index low c.min-end.result c.gather_span_block-word.result c.args.out.now c.loop-index.out c.gather_span_block-word.new.out c.loop-index.known c.keep_word.new.self
    (subst (λ m. Filled cells m c.args.out.now c.loop-index.out c.loop-index.known) begun c.loop-index.invariant) (omega arith) (omega (arith, more, size)) (omega (arith, c.min-end.ensures, size))
    (λ k h. cell-span c.args.self.now start count k (omega (arith, size)))
    c.gather_span_block-word.auto.out c.gather_span_block-word.ensures c.keep_word.ensures.kept)

pub returns : goal.returns
returns c =
    let count : ℕ = c.args.high - c.args.low in
    let cells = slice_range c.args.self.now c.args.low c.args.high in
    let size : length cells ≡ count = length-span c.args.self.now c.args.low c.args.high c.requires.ordered c.requires.inside in
    filled_all cells (min count (64 * c.loop-index.index)) c.args.out.now c.loop-index.out c.loop-index.known
    (omega (arith, size, c.loop-index-test.false, c.div_ceil-index-end.ensures, div_ceil_times count 64 (omega arith))) c.loop-index.invariant
