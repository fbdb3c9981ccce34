use Rattle.std.proofs.Common.{◌∙◌, Err, rules, subst, sym}
use Rattle.gq_project.specs.Judged.{PushesValues}
use Rattle.gq_project.proofs.Looking.{column_failed, key_failed, when_dropped, when_faulty, when_kept}
use Rattle.gq_project.proofs.Ready.{columns_mean, keys_mean}
use Rattle.gq_project.proofs.judging.judge.Goals as goal

pub returns-in-Dropped : goal.returns-in-Dropped
returns-in-Dropped g c = (when_dropped _ _ _ _ (sym c.in-Dropped.is ∙ c.requires.checked), search rules, search rules)

pub returns-in-Fault : goal.returns-in-Fault
returns-in-Fault g c = when_faulty _ _ _ _ _ (sym c.in-Fault.is ∙ c.requires.checked)

pub returns-in-Err : goal.returns-in-Err
returns-in-Err g c =
    let q = c.args.question.now in
    let here = g.R.Assigned.assignment c.args.row.now in
    let columns = columns_mean q.graph.now here q.bound.now.columns c.as_slice.result.now (c.as_slice.ensures ∙ c.requires.reading.columns) in
    column_failed _ _ _ _ _ c.args.columns.now.items c.push_values.new.values.items c.args.keys.now.items (sym c.in-Pass.is ∙ c.requires.checked)
    (subst (λ os. PushesValues os c.args.columns.now.items c.push_values.new.values.items (Err c.in-Err.refusal)) columns c.in-Err.ensures)

pub returns-in-Err-push_values : goal.returns-in-Err-push_values
returns-in-Err-push_values g c =
    let q = c.args.question.now in
    let here = g.R.Assigned.assignment c.args.row.now in
    let columns = columns_mean q.graph.now here q.bound.now.columns c.as_slice.result.now (c.as_slice.ensures ∙ c.requires.reading.columns) in
    let keys = keys_mean q.graph.now here q.bound.now.keys c.as_slice-2.result.now (c.as_slice-2.ensures ∙ c.requires.reading.keys) in
    key_failed _ _ _ _ _ c.args.columns.now.items c.push_values.new.values.items c.args.keys.now.items c.push_values-2.new.values.items (sym c.in-Pass.is ∙ c.requires.checked)
    (rw columns at c.in-Ok.ensures)
    (subst (λ os. PushesValues os c.args.keys.now.items c.push_values-2.new.values.items (Err c.in-Err-push_values.refusal)) keys c.in-Err-push_values.ensures)

pub returns : goal.returns
returns g c =
    let q = c.args.question.now in
    let here = g.R.Assigned.assignment c.args.row.now in
    let columns = columns_mean q.graph.now here q.bound.now.columns c.as_slice.result.now (c.as_slice.ensures ∙ c.requires.reading.columns) in
    let keys = keys_mean q.graph.now here q.bound.now.keys c.as_slice-2.result.now (c.as_slice-2.ensures ∙ c.requires.reading.keys) in
    when_kept _ _ _ _ _ _ _ _ (sym c.in-Pass.is ∙ c.requires.checked) (rw columns at c.in-Ok.ensures) (rw keys at c.in-Ok-push_values.ensures)
