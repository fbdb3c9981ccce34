use Rattle.std.proofs.Common.{◌≡◌, ◌+◌, ◌<◌, ap, length, map, get_or, sym, ◌∙◌, arith, pos, Some, None, refl, ℕ, ℤ, List}
use Rattle.std.proofs.lemmas.List.{length-map, get_or-map}
use Rattle.std.proofs.lemmas.List.Sums.{count_by-le-length}
use Rattle.gq_column.specs.Cells.{cell_at}
use Rattle.gq_column.proofs.Ranked.{length-cells_of, full_cell}
use Rattle.gq_column.proofs.Filled.{all_known}
use Rattle.gq_column.proofs.Column.gather.Goals as goal

pub copy_rows-requires-clause-inside : goal.copy_rows-requires-clause-inside
copy_rows-requires-clause-inside c = λ k d h.
    omega (arith, c.requires.inside k d h, ap length c.self.view_is, length-cells_of c.self.inside.present c.self.inside.kept.items, c.if-len.true, c.len.ensures, c.len-2.ensures, c.as_slice.ensures.len)

pub returns-then-len : goal.returns-then-len
returns-then-len c =
    let present = c.self.inside.present in
    let kept = c.self.inside.kept.items in
    let rows = c.args.rows.now in
    let cells = map (λ row. cell_at c.args.self.now row) rows in
    let full : length kept ≡ length present + 1 = omega (arith, c.if-len.true, c.len.ensures, c.len-2.ensures, c.self.inside.kept.ok.0, c.self.invariant.count, count_by-le-length (λ on. on) present) in
    let new = c.copy_rows.new.out in
    let cell = λ (k : ℕ) (h : k < length rows).
    get_or-map (λ row. cell_at c.args.self.now row) rows k 0 None h
    ∙ rw (← c.self.view_is) (full_cell present kept (get_or rows k 0) c.self.invariant full (omega (arith, c.requires.inside k 0 h, ap length c.self.view_is, length-cells_of present kept)))
    ∙ ap (λ (xs : List ℤ). Some (get_or xs (get_or rows k 0) (pos 0))) (sym c.as_slice.ensures.value)
    ∙ ap (λ (z : ℤ). Some z) (sym (c.copy_rows.ensures.written k h)) in
    all_known cells (length rows) new c.args.out.now new c.first.result (sym (length-map rows (λ row. cell_at c.args.self.now row))) c.copy_rows.auto.out
    cell (λ k h. refl) c.copy_rows.ensures.rest c.first.ensures.below
