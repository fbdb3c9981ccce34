use Rattle.std.proofs.Common.{◌∙◌, refl, sym}
use Rattle.gq_project.proofs.Looking.{stops}
use Rattle.gq_project.proofs.judging.check_late.Goals as goal

pub returns-in-Dropped : goal.returns-in-Dropped
returns-in-Dropped g c =
    sym (stops _ _ c.in-Some.conjunct.now c.late.verdict c.late.number-index c.args.late.now _ c.late-test.true c.in-Some.ensures.value c.in-Dropped.ensures refl) ∙ c.late.invariant
