use Rattle.std.proofs.Common.{◌∙◌, ap, arith, get_or, sym}
use Rattle.std.specs.Prelude.{◌&&◌}
use Rattle.std.proofs.lemmas.List.Folds.{list_all_at, list_all_more}
use Rattle.std.proofs.lemmas.Option.{get_or_from_slice_get}
use Rattle.gq_base.specs.Valid.{fits_fields}
use Rattle.gq_plain.proofs.validity.all_fit.Goals as goal

pub returns-then-not-fits_fields : goal.returns-then-not-fits_fields
returns-then-not-fits_fields c =
    let cells = c.row.result.now in
    let fits = fits_fields c.args.fields.now in
    let is = get_or_from_slice_get c.args.rows.now c.loop-row.row cells cells c.row.ensures in
    sym (list_all_at fits c.args.rows.now c.loop-row.row cells (omega arith) (ap fits is ∙ sym c.fits_fields.ensures ∙ c.if-not-fits_fields.true))

pub loop-row-preserved : goal.loop-row-preserved
loop-row-preserved c =
    let cells = c.row.result.now in
    let fits = fits_fields c.args.fields.now in
    let is = get_or_from_slice_get c.args.rows.now c.loop-row.row cells cells c.row.ensures in
    list_all_more fits c.args.rows.now c.loop-row.row cells (omega arith)
    ∙ ap (λ before. before && fits (get_or c.args.rows.now c.loop-row.row cells)) c.loop-row.invariant ∙ ap fits is ∙ sym c.fits_fields.ensures ∙ c.if-not-fits_fields.false
