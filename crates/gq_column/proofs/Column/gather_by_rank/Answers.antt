use Rattle.std.proofs.Common.{◌≡◌, ◌<◌, ◌+◌, ◌*◌, ℕ, min, length, get_or, map, subst, arith, None}
use Rattle.std.proofs.lemmas.List.{length-map, get_or-map}
use Rattle.std.proofs.lemmas.Grind.{div_ceil_times}
use Rattle.gq_column.specs.Cells.{cell_at}
use Rattle.gq_column.proofs.Filled.{Filled, filled_block, filled_all}
use Rattle.gq_column.proofs.Column.gather_by_rank.Goals as goal

pub loop-index-preserved : goal.loop-index-preserved
loop-index-preserved c =
    let rows = c.args.rows.now in
    let cells = map (λ row. cell_at c.args.self.now row) rows in
    let cell = λ (k : ℕ). cell_at c.args.self.now (get_or rows k 0) in
    let size : length cells ≡ length rows = length-map rows (λ row. cell_at c.args.self.now row) in
    let low : ℕ = 64 * c.loop-index.index in
    let more : low < length rows = omega (arith, c.loop-index-test.true, c.div_ceil-index-end.ensures, div_ceil_times (length rows) 64 (omega arith)) in
    let begun : min (length rows) low ≡ low = omega (arith, more) in
    let high : c.min-high.result ≡ min (length rows) (64 * (c.loop-index.index + 1)) = omega (arith, c.min-high.ensures) in
    subst (λ m. Filled cells m c.args.out.now c.gather_block-word.new.out c.keep_word.new.self) high
    (filled_block cells cell c.loop-index.index low c.min-high.result c.gather_block-word.result c.args.out.now c.loop-index.out c.gather_block-word.new.out c.loop-index.known c.keep_word.new.self
    (subst (λ m. Filled cells m c.args.out.now c.loop-index.out c.loop-index.known) begun c.loop-index.invariant) (omega arith) (omega (arith, more, size)) (omega (arith, c.min-high.ensures, size))
    (λ k h. get_or-map (λ row. cell_at c.args.self.now row) rows k 0 None (omega (arith, size)))
    c.gather_block-word.auto.out c.gather_block-word.ensures c.keep_word.ensures.kept)

pub returns : goal.returns
returns c =
    let rows = c.args.rows.now in
    let cells = map (λ row. cell_at c.args.self.now row) rows in
    let size : length cells ≡ length rows = length-map rows (λ row. cell_at c.args.self.now row) in
    filled_all cells (min (length rows) (64 * c.loop-index.index)) c.args.out.now c.loop-index.out c.loop-index.known
    (omega (arith, size, c.loop-index-test.false, c.div_ceil-index-end.ensures, div_ceil_times (length rows) 64 (omega arith))) c.loop-index.invariant
