use Rattle.std.proofs.Common.{◌∙◌, ◌+◌, ℕ, Bool, sym, subst, arith}
use Rattle.gq_filter.specs.LaneTests.{holds}
use Rattle.gq_filter.specs.RowLists.{cells_at}
use Rattle.gq_filter.proofs.Trying.{IsTried, tried_dropped, tried_kept}
use Rattle.gq_filter.proofs.spans.keep_each.Goals as goal
use Rattle.gq_filter.proofs.spans.keep_each.Goals.{then-not-holds_at, else-not-holds_at}

pub loop-place-preserved : goal.loop-place-preserved
loop-place-preserved c =
    let pass : ℕ → Bool = λ k. holds (cells_at c.args.feeds.now (c.args.low + k)) c.args.test.now in
    elim c.if-not-holds_at.branch [
      | then-not-holds_at w ↦
          subst (IsTried pass c.args.marks.now (c.loop-place.place + 1)) (sym (w.marks-is ∙ w.set.ensures.written))
          (tried_dropped pass c.args.marks.now c.loop-place.place c.loop-place.marks c.loop-place.invariant
          (omega (arith, c.get.ensures.whole, c.loop-place-test.true, c.requires.few))
          (sym w.if-not-holds_at.true ∙ c.holds_at.ensures))
      | else-not-holds_at w ↦
          subst (IsTried pass c.args.marks.now (c.loop-place.place + 1)) (sym w.marks-is)
          (tried_kept pass c.args.marks.now c.loop-place.place c.loop-place.marks c.loop-place.invariant
          (sym w.if-not-holds_at.false ∙ c.holds_at.ensures))
    ]
