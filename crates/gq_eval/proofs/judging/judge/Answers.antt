use Rattle.std.proofs.Common.{◌∙◌, ap, sym, arith}
use Rattle.gq_expr.specs.Meaning.{meaning}
use Rattle.gq_expr.specs.Operators.{Outcome}
use Rattle.gq_eval.specs.Asked.{Asked, answers}
use Rattle.gq_eval.specs.Judged.{marks_of}
use Rattle.gq_eval.proofs.Verdicts.{at_end, judged_so, stops}
use Rattle.gq_eval.proofs.judging.judge.Goals as goal

pub returns-in-Dropped : goal.returns-in-Dropped
returns-in-Dropped g c =
    let m : Asked → Outcome = λ a. meaning a.graph (g.R.Assigned.assignment c.args.row.now) a.expr in
    ap marks_of
    (sym (stops m c.args.conjuncts.now c.conjunct-item.result c.conjuncts.verdict c.conjuncts.conjunct-index _ c.conjuncts-test.true c.conjunct-item.is (sym c.in-Dropped.is ∙ c.judge_more-verdict.ensures) c.value.ensures)
    ∙ c.conjuncts.invariant)
    ∙ judged_so (answers (g.R.Assigned.assignment c.args.row.now) c.args.conjuncts.now)

pub returns : goal.returns
returns g c =
    let m : Asked → Outcome = λ a. meaning a.graph (g.R.Assigned.assignment c.args.row.now) a.expr in
    let past = c.conjuncts-test.false in
    ap marks_of (sym (at_end m c.args.conjuncts.now c.conjuncts.verdict c.conjuncts.conjunct-index (omega (arith, past))) ∙ c.conjuncts.invariant)
    ∙ judged_so (answers (g.R.Assigned.assignment c.args.row.now) c.args.conjuncts.now)
