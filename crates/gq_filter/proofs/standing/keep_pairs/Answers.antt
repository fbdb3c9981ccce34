use Rattle.std.proofs.Common.{◌∙◌, ◌+◌, sym, ap₂, subst, arith}
use Rattle.gq_filter.specs.LaneTests.{pass}
use Rattle.gq_lanes.specs.Tests.{compares}
use Rattle.gq_filter.proofs.Trying.{IsTried, tried_dropped, tried_kept}
use Rattle.gq_filter.proofs.standing.keep_pairs.Goals as goal
use Rattle.gq_filter.proofs.standing.keep_pairs.Goals.{then-not-both_compared, else-not-both_compared}

pub loop-place-preserved : goal.loop-place-preserved
loop-place-preserved c =
    let told = c.both_compared.ensures ∙ ap₂ (pass (compares c.args.op)) c.cell_at.ensures c.cell_at-in-loop-place.ensures in
    elim c.if-not-both_compared.branch [
      | then-not-both_compared w ↦
          subst (IsTried _ c.args.marks.now (c.loop-place.place + 1)) (sym (w.marks-is ∙ w.set.ensures.written))
          (tried_dropped _ c.args.marks.now c.loop-place.place c.loop-place.marks c.loop-place.invariant
          (omega (arith, c.get.ensures.whole, c.loop-place-test.true, c.requires.few))
          (sym w.if-not-both_compared.true ∙ told))
      | else-not-both_compared w ↦
          subst (IsTried _ c.args.marks.now (c.loop-place.place + 1)) (sym w.marks-is)
          (tried_kept _ c.args.marks.now c.loop-place.place c.loop-place.marks c.loop-place.invariant
          (sym w.if-not-both_compared.false ∙ told))
    ]
