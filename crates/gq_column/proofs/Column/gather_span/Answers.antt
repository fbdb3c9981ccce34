use Rattle.std.proofs.Common.{◌≡◌, ◌<◌, ap, length, get_or, sym, ◌∙◌, arith, pos, Some, ℕ, ℤ, List, take, drop, ◌≤◌, ◌-◌, ◌+◌}
use Rattle.std.specs.Prelude.{slice_range}
use Rattle.std.proofs.lemmas.List.{get_or-take, get_or-drop}
use Rattle.gq_column.proofs.Ranked.{length-cells_of, rank, rank_le, rank_most, span_cell}
use Rattle.gq_column.proofs.Filled.{front_known, cell-span, length-span}
use Rattle.gq_column.proofs.Column.gather_span.Goals as goal

pub rank-first-requires : goal.rank-first-requires
rank-first-requires c = omega (arith, ap length c.self.view_is, length-cells_of c.self.inside.present c.self.inside.kept.items, c.requires.inside, c.requires.ordered)

pub rank-end-requires : goal.rank-end-requires
rank-end-requires c = omega (arith, ap length c.self.view_is, length-cells_of c.self.inside.present c.self.inside.kept.items, c.requires.inside)

pub overflow_sub-end : goal.overflow_sub-end
overflow_sub-end c = omega (arith, c.rank-first.ensures, c.rank-end.ensures, rank_le c.self.inside.present c.args.low c.args.high c.requires.ordered)

pub returns-then-end-first : goal.returns-then-end-first
returns-then-end-first c =
    let present = c.self.inside.present in
    let kept = c.self.inside.kept.items in
    let low = c.args.low in
    let high = c.args.high in
    let inside : high ≤ length present = omega (arith, ap length c.self.view_is, length-cells_of present kept, c.requires.inside) in
    let first : ℕ = c.rank-first.result in
    let span : List ℤ = take (c.rank-end.result - first) (drop first kept) in
    let full : rank present high - rank present low ≡ high - low = omega (arith, c.if-end-first.true, c.rank-first.ensures, c.rank-end.ensures) in
    let count : c.rank-end.result - first ≡ high - low = omega (arith, full, c.rank-first.ensures, c.rank-end.ensures) in
    let size : length span ≡ high - low = omega (arith, length-span kept first c.rank-end.result (omega (arith, c.rank-first.ensures, c.rank-end.ensures, rank_le present low high c.requires.ordered)) (omega (arith, c.rank-end.ensures, rank_most present high, c.self.invariant.count)), count) in
    let cells = slice_range c.args.self.now low high in
    let cell = λ (k : ℕ) (h : k < high - low).
    cell-span c.args.self.now low (high - low) k h
    ∙ rw (← c.self.view_is) (span_cell present kept low high k c.requires.ordered inside full h)
    ∙ ap (λ j. Some (get_or kept (j + k) (pos 0))) (sym c.rank-first.ensures)
    ∙ ap (λ (z : ℤ). Some z) (sym (get_or-take (c.rank-end.result - first) (drop first kept) k (pos 0) (omega (arith, count, h)) ∙ get_or-drop first kept k (pos 0))) in
    rw (c.copy_from_slice.ensures.after, c.deref.ensures.value)
    (front_known cells (high - low) span c.args.out.now c.first.result (sym (length-span c.args.self.now low high c.requires.ordered c.requires.inside)) size c.requires.room cell c.first.ensures.below)
