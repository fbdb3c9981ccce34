use Rattle.std.proofs.Common.{◌∙◌, ap, map, sym, length}
use Rattle.std.specs.Option.{option_map}
use Rattle.gq_base.specs.Values.{val}
use Rattle.gq_kept.specs.Tables.{numbered}
use Rattle.gq_project.proofs.Ready.{keys_long, keys_mean}
use Rattle.gq_values.proofs.SureRows.{left_behind}
use Rattle.gq_values.proofs.held.Rows.is_left_behind.Goals as goal

pub returns-in-Some : goal.returns-in-Some
returns-in-Some g c = λ e.
    let q = c.args.question.now in
    let here = g.R.Assigned.assignment c.args.row.now in
    let keys = keys_mean q.graph.now here q.bound.now.keys c.as_slice-keys.result.now (c.as_slice-keys.ensures ∙ c.requires.reading.keys) in
    left_behind q.graph.now here q.bound.now (numbered q.bound.now.conjuncts q.late.now) c.args.self.now (map val c.in-Some.bar.items) c.rank_of_bar.result
    (c.requires.sure c.if-not-question.false) (sym c.in-Pass.is ∙ c.requires.checked) (sym (ap (option_map (λ v. map val v.items)) c.in-Some.is))
    (rw (c.as_slice-sorts.ensures, c.as_slice.ensures.value, keys) at c.rank_of_bar.ensures) (sym c.is_le.ensures ∙ e)

pub rank_of_bar-requires : goal.rank_of_bar-requires
rank_of_bar-requires g c =
    let q = c.args.question.now in
    keys_long q.graph.now q.bound.now.keys c.as_slice-keys.result.now (c.as_slice-keys.ensures ∙ c.requires.reading.keys) ∙ sym (ap length c.as_slice-sorts.ensures)
