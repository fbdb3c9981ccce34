use Rattle.std.proofs.Common.{ℕ, ◌≡◌, ◌+◌, ◌<◌, true, subst, sym}
use Rattle.std.proofs.Math.Facts.{to_z-of_z}
use Rattle.gq_bits.specs.Places.{is_marked}
use Rattle.gq_column.specs.Cells.{cell_at}
use Rattle.gq_cells.specs.steps.Cells.{IsBehindInt}
use Rattle.gq_cells.proofs.Barred.{ahead_taken}
use Rattle.gq_cells.proofs.behind.integers_behind.Goals as goal

pub returns : goal.returns
returns c =
    let fits = c.ranges.bar in
    let kept = simp to_z-of_z at c.keep_const-2.ensures in
    subst (λ d. (k : ℕ) → is_marked c.and_not.new.self k ≡ true → (k < c.args.count) × IsBehindInt d c.args.bar (cell_at c.args.column.now (c.args.first + k))) (sym c.if-down.false)
    (ahead_taken c.args.column.now c.args.first c.args.count _ c.gather_span.new.out c.gather_span.new.known c.gather_span.ensures c.requires.inside c.args.bar c.first-marks.result c.keep_const-2.new.marks c.and_not.new.self c.first-marks.ensures.below c.first-ahead.result c.first-ahead.ensures.below kept c.and_not.ensures.without)
