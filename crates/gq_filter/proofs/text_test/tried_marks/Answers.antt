use Rattle.std.proofs.Common.{◌∙◌, ap, arith}
use Rattle.gq_filter.proofs.Codes.{tried_more}
use Rattle.gq_filter.specs.steps.Texts.{is_in}
use Rattle.gq_filter.proofs.text_test.tried_marks.Goals as goal

pub loop-place-init : goal.loop-place-init
loop-place-init c = record { whole = c.first-marks.ensures.whole; done = λ k lt. absurd (omega (arith, lt)) }

pub loop-place-preserved : goal.loop-place-preserved
loop-place-preserved c =
    let part = c.args.part.now in
    tried_more part c.args.dict.now c.args.low c.loop-place.place c.loop-place.marks c.set.new.self c.is_in-has.result c.loop-place.invariant (omega (arith, c.loop-place-test.true, c.requires.few))
    c.set.ensures.written c.set.ensures.whole (c.is_in-has.ensures ∙ ap (is_in part) c.text.ensures)

pub returns : goal.returns
returns c = λ k lt. c.loop-place.invariant.done k (omega (arith, lt, c.loop-place-test.false))
