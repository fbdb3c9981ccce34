use Rattle.std.proofs.Common.{◌≡◌, drop}
use Rattle.gq_eval.specs.Asked.{answers}
use Rattle.gq_eval.specs.Judged.{judged_after}
use Rattle.gq_eval.specs.declared.judging.Verdict.TheVariants.{Pass}
use Rattle.gq_project.specs.Reading.{at_numbers}
use Rattle.gq_project.proofs.judging.check_late.Given as goal

abbrev pub invariant-late : goal.invariant-late
invariant-late g l =
    let here = g.R.Assigned.assignment l.row in
    judged_after l.verdict (answers here (at_numbers l.conjuncts (drop l.number-index l.late)))
    ≡ judged_after Pass (answers here (at_numbers l.conjuncts l.late))
