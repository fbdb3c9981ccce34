use Rattle.std.proofs.Common.{◌≡◌, ◌+◌, ◌<◌, List, [], ◌∷◌, ℕ, Option, None, Bor, drop, get_or, map, length, sym, ap, ◌∙◌, arith}
use Rattle.std.proofs.lemmas.List.{get_or-map, length-append, length-map}
use Rattle.gq_base.specs.declared.cell.Cell.{Cell}
use Rattle.gq_store.specs.Columns.{texts_in}
use Rattle.gq_store.proofs.Coding.{integers_more, left_texts}
use Rattle.gq_store.proofs.property.integers_of.Goals as goal

-- the cell that comes next
next_cell : (cells : List (Bor (Option Cell))) (k : ℕ) (item : Bor (Option Cell)) → k < length cells → item ≡ get_or cells k item
    → (k < length (map (λ (x : Bor (Option Cell)). x.now) cells)) × (get_or (map (λ (x : Bor (Option Cell)). x.now) cells) k None ≡ item.now)
next_cell cells k item low is =
    let f : Bor (Option Cell) → Option Cell = λ x. x.now in
    (omega (arith, length-map cells f, low), get_or-map f cells k item None low ∙ ap f (sym is))

pub integer_of-integer-requires : goal.integer_of-integer-requires
integer_of-integer-requires c =
    let cells : List (Option Cell) = map (λ (x : Bor (Option Cell)). x.now) c.args.cells.now in
    let k : ℕ = c.loop-cell.cell-index in
    let cell = c.cell-item.result.now in
    let (low, is) = next_cell c.args.cells.now k c.cell-item.result (omega arith) c.cell-item.is in
    let more = left_texts k cells cell low is in
    omega (arith, c.loop-cell.invariant.size, ap length more, length-append (texts_in (cell ∷ [])) (texts_in (drop (k + 1) cells)))

pub loop-cell-preserved : goal.loop-cell-preserved
loop-cell-preserved c =
    let (low, is) = next_cell c.args.cells.now c.loop-cell.cell-index c.cell-item.result (omega arith) c.cell-item.is in
    rw c.in_ok-push.ensures
    (integers_more c.loop-cell.cell-index (map (λ (x : Bor (Option Cell)). x.now) c.args.cells.now) c.args.codes.now c.loop-cell.left.now c.integer_of-integer.result.1.now c.loop-cell.integers c.cell-item.result.now c.integer_of-integer.result.0 c.loop-cell.invariant low is
    c.integer_of-integer.ensures.left c.integer_of-integer.ensures.is)
