use Rattle.std.proofs.Common.{◌∙◌, ◌+◌, ℕ, Bool, sym, ap, subst, arith}
use Rattle.gq_filter.specs.Rows.{row_in}
use Rattle.gq_filter.specs.steps.Texts.{row_passes}
use Rattle.gq_filter.proofs.Trying.{IsTried, tried_dropped, tried_kept}
use Rattle.gq_filter.proofs.text_test.PartTest.keep.Goals as goal
use Rattle.gq_filter.proofs.text_test.PartTest.keep.Goals.{then-not-passes_row, else-not-passes_row}

pub loop-place-preserved : goal.loop-place-preserved
loop-place-preserved c =
    let pass : ℕ → Bool = λ k. row_passes c.args.self.now (row_in c.args.rows k) in
    elim c.if-not-passes_row.branch [
      | then-not-passes_row w ↦
          subst (IsTried pass c.args.marks.now (c.loop-place.place + 1)) (sym (w.marks-is ∙ w.set.ensures.written))
          (tried_dropped pass c.args.marks.now c.loop-place.place c.loop-place.marks c.loop-place.invariant
          (omega (arith, c.get.ensures.whole, c.loop-place-test.true, c.len-place-end.ensures, c.requires.few))
          (sym w.if-not-passes_row.true ∙ c.passes_row.ensures ∙ ap (row_passes c.args.self.now) c.row.ensures))
      | else-not-passes_row w ↦
          subst (IsTried pass c.args.marks.now (c.loop-place.place + 1)) (sym w.marks-is)
          (tried_kept pass c.args.marks.now c.loop-place.place c.loop-place.marks c.loop-place.invariant
          (sym w.if-not-passes_row.false ∙ c.passes_row.ensures ∙ ap (row_passes c.args.self.now) c.row.ensures))
    ]
