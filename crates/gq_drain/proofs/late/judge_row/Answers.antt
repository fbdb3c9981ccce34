use Rattle.std.proofs.Common.{◌∙◌, ap}
use Rattle.std.specs.Prelude.{filter}
use Rattle.gq_eval.specs.Asked.{answers}
use Rattle.gq_eval.specs.declared.judging.Verdict.TheVariants.{Dropped}
use Rattle.gq_plan.specs.Marked.{Marked, marks}
use Rattle.gq_project.specs.Reading.{at_numbers}
use Rattle.gq_drain.specs.Testing.{admitted_by}
use Rattle.gq_drain.specs.steps.Continued.{rows_marked}
use Rattle.gq_drain.proofs.Ended.{left_all, left_none}
use Rattle.gq_drain.proofs.Judging.{verdict_says}
use Rattle.gq_drain.proofs.late.judge_row.Goals as goal

pub returns-in-Dropped : goal.returns-in-Dropped
returns-in-Dropped g c =
    let here = g.R.Assigned.assignment c.args.row.now in
    let p = c.args.prepared.now in
    let admitted = admitted_by p.tests.all in
    ap (λ ms. filter (λ (m : Marked). admitted m.row) (rows_marked here ms))
    (verdict_says here p.conjuncts c.as_slice-late.result.now c.args.typed.now.late Dropped c.as_slice-late.ensures c.in-Dropped.ensures)

pub returns-then-not-pass : goal.returns-then-not-pass
returns-then-not-pass g c =
    let here = g.R.Assigned.assignment c.args.row.now in
    let p = c.args.prepared.now in
    left_none (admitted_by p.tests.all) here (marks (answers here (at_numbers p.conjuncts c.args.typed.now.late))) c.if-not-pass.ensures

pub returns : goal.returns
returns g c =
    let here = g.R.Assigned.assignment c.args.row.now in
    let p = c.args.prepared.now in
    ap (rows_marked here)
    (verdict_says here p.conjuncts c.as_slice-late.result.now c.args.typed.now.late c.check_late-verdict.result c.as_slice-late.ensures c.check_late-verdict.ensures)
    ∙ left_all (admitted_by p.tests.all) here (marks (answers here (at_numbers p.conjuncts c.args.typed.now.late))) c.if-not-pass.ensures
