use Rattle.std.proofs.Common.{◌∙◌, ap}
use Rattle.gq_project.proofs.Ready.{late_mean}
use Rattle.gq_eval.specs.Judged.{judged_after}
use Rattle.gq_eval.specs.declared.judging.Verdict.TheVariants.{Pass}
use Rattle.gq_project.proofs.judging.check.Goals as goal

pub returns : goal.returns
returns g c =
    let q = c.args.question.now in
    c.check_late.ensures ∙ ap (judged_after Pass) (late_mean q.graph.now (g.R.Assigned.assignment c.args.row.now) q.bound.now.conjuncts q.reading.now.conjuncts q.late.now c.requires.conjuncts)
