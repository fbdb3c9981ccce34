use Rattle.std.proofs.Common.{◌∙◌, ◌+◌, ap, refl, subst, sym}
use Rattle.gq_eval.specs.declared.judging.Verdict.TheVariants.{Pass}
use Rattle.gq_eval.specs.Judged.{judged_after}
use Rattle.gq_listed.specs.Listed.{AreFinders, AreOver}
use Rattle.gq_listed.proofs.Finding.{all_over}
use Rattle.gq_listed.proofs.ListedRows.{failed, kept, many}
use Rattle.gq_project.proofs.Looking.{when_dropped, when_faulty}
use Rattle.gq_project.proofs.Ready.{late_mean}
use Rattle.gq_listed.proofs.listed.Listed.add.Goals as goal

pub returns-in-Dropped-clause-adds : goal.returns-in-Dropped-clause-adds
returns-in-Dropped-clause-adds g c =
    let q = c.args.asked.now in
    let late = late_mean q.graph.now (g.R.Assigned.assignment c.args.row.now) q.bound.now.conjuncts q.reading.now.conjuncts q.late.now c.requires.reading.conjuncts in
    (when_dropped _ _ _ _ (sym c.in-Dropped.is ∙ c.check_late.ensures ∙ ap (judged_after Pass) late), refl)

pub returns-in-Fault-clause-adds : goal.returns-in-Fault-clause-adds
returns-in-Fault-clause-adds g c =
    let q = c.args.asked.now in
    let late = late_mean q.graph.now (g.R.Assigned.assignment c.args.row.now) q.bound.now.conjuncts q.reading.now.conjuncts q.late.now c.requires.reading.conjuncts in
    when_faulty _ _ _ _ _ (sym c.in-Fault.is ∙ c.check_late.ensures ∙ ap (judged_after Pass) late)

pub put_row-requires-clause-finders : goal.put_row-requires-clause-finders
put_row-requires-clause-finders g c = subst (λ asks. AreFinders c.args.self.now.cells.sources asks c.args.finders.now) (sym (c.as_slice-columns.ensures ∙ c.requires.reading.columns)) c.requires.finders

pub returns-in-Err-clause-adds : goal.returns-in-Err-clause-adds
returns-in-Err-clause-adds g c =
    let q = c.args.asked.now in
    let here = g.R.Assigned.assignment c.args.row.now in
    let late = late_mean q.graph.now here q.bound.now.conjuncts q.reading.now.conjuncts q.late.now c.requires.reading.conjuncts in
    failed q here c.as_slice-columns.result.now (c.as_slice-columns.ensures ∙ c.requires.reading.columns) c.requires.keyless (sym c.in-Pass.is ∙ c.check_late.ensures ∙ ap (judged_after Pass) late)
    c.args.self.now (record c.args.self.now { cells = c.put_row.new.cells }) c.put_row.new.cells.values c.in-Err.refusal c.in-Err.ensures.puts

pub returns-clause-adds : goal.returns-clause-adds
returns-clause-adds g c =
    let q = c.args.asked.now in
    let here = g.R.Assigned.assignment c.args.row.now in
    let late = late_mean q.graph.now here q.bound.now.conjuncts q.reading.now.conjuncts q.late.now c.requires.reading.conjuncts in
    kept q here c.as_slice-columns.result.now (c.as_slice-columns.ensures ∙ c.requires.reading.columns) c.requires.keyless (sym c.in-Pass.is ∙ c.check_late.ensures ∙ ap (judged_after Pass) late)
    c.args.self.now (record { cells = c.put_row.new.cells; count = c.args.self.now.count + 1 }) c.in-Ok.ensures.puts refl (c.may_keep.ensures.yes c.if-not-may_keep.false)

pub returns-then-not-may_keep-clause-adds : goal.returns-then-not-may_keep-clause-adds
returns-then-not-may_keep-clause-adds g c =
    let q = c.args.asked.now in
    let here = g.R.Assigned.assignment c.args.row.now in
    let late = late_mean q.graph.now here q.bound.now.conjuncts q.reading.now.conjuncts q.late.now c.requires.reading.conjuncts in (
      refl,
      c.may_keep.ensures.no c.if-not-may_keep.true,
      many q here c.as_slice-columns.result.now (c.as_slice-columns.ensures ∙ c.requires.reading.columns) c.requires.keyless (sym c.in-Pass.is ∙ c.check_late.ensures ∙ ap (judged_after Pass) late) c.args.self.now c.put_row.new.cells.values c.in-Ok.ensures.puts,
    )

pub put_row-requires-clause-graph : goal.put_row-requires-clause-graph
put_row-requires-clause-graph g c =
    let q = c.args.asked.now in
    subst (AreOver q.graph.now) (sym (c.as_slice-columns.ensures ∙ c.requires.reading.columns)) (all_over q.graph.now q.bound.now.columns)
