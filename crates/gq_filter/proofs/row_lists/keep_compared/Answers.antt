use Rattle.std.proofs.Common.{◌∙◌, sym, ap, arith}
use Rattle.std.proofs.Common.{subst, ◌+◌}
use Rattle.gq_filter.specs.LaneTests.{passes}
use Rattle.gq_filter.proofs.Trying.{IsTried, tried_dropped, tried_kept}
use Rattle.gq_filter.proofs.row_lists.keep_compared.Goals as goal
use Rattle.gq_filter.proofs.row_lists.keep_compared.Goals.{then-not-compared, else-not-compared}

pub loop-place-preserved : goal.loop-place-preserved
loop-place-preserved c =
    let told = c.compared.ensures ∙ ap (passes _) c.cell_at.ensures in
    elim c.if-not-compared.branch [
      | then-not-compared w ↦
          subst (IsTried _ c.args.marks.now (c.loop-place.place + 1)) (sym (w.marks-is ∙ w.set.ensures.written))
          (tried_dropped _ c.args.marks.now c.loop-place.place c.loop-place.marks c.loop-place.invariant
          (omega (arith, c.get.ensures.whole, c.loop-place-test.true, c.requires.few))
          (sym w.if-not-compared.true ∙ told))
      | else-not-compared w ↦
          subst (IsTried _ c.args.marks.now (c.loop-place.place + 1)) (sym w.marks-is)
          (tried_kept _ c.args.marks.now c.loop-place.place c.loop-place.marks c.loop-place.invariant
          (sym w.if-not-compared.false ∙ told))
    ]
