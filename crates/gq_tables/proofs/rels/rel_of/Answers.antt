use Rattle.std.proofs.Common.{◌∙◌, sym}
use Rattle.std.proofs.lemmas.Result.{err_from_is_err_and}
use Rattle.csv.specs.Records.{fields_of}
use Rattle.gq_tables.proofs.Answering.{passed_on}
use Rattle.gq_tables.proofs.RecordForms.{bad_cells, bad_source, bad_target, two_texts, whole_rel}
use Rattle.gq_tables.proofs.rels.rel_of.Goals as goal

pub returns-in_err-source : goal.returns-in_err-source
returns-in_err-source c =
    let p = err_from_is_err_and c.from_residual.result c.from_residual.ensures.1 in
    let t = two_texts (fields_of c.args.pending.now.texts) _ c.requires.wide in
    rw (p.1, p.2) (bad_source c.args.number _ _ c.args.form.now.fields.now _
    t.from t.to t.first t.second c.in_err-source.field-0.0
    (sym (c.requires.found.source t.from t.first c.args.number 1) ∙ sym c.in_err-source.ensures))

pub returns-in_err-target : goal.returns-in_err-target
returns-in_err-target c =
    let p = err_from_is_err_and c.from_residual-in_err-target.result
    c.from_residual-in_err-target.ensures.1 in
    let t = two_texts (fields_of c.args.pending.now.texts) _ c.requires.wide in
    rw (p.1, p.2) (bad_target c.args.number _ _ c.args.form.now.fields.now _
    t.from t.to t.first t.second c.in_ok-source.source
    (sym (c.requires.found.source t.from t.first c.args.number 1) ∙ sym c.in_ok-source.ensures)
    c.in_err-target.field-0.0
    (sym (c.requires.found.target t.to t.second c.args.number 2) ∙ sym c.in_err-target.ensures))

pub returns-in_err-cells : goal.returns-in_err-cells
returns-in_err-cells c =
    let p = err_from_is_err_and c.from_residual-in_err-cells.result
    c.from_residual-in_err-cells.ensures.1 in
    let t = two_texts (fields_of c.args.pending.now.texts) _ c.requires.wide in
    let part = rw (c.into_vec-cells.ensures ∙ c.requires.empty) at c.in_err-cells.ensures in
    rw (p.1, p.2) (passed_on _ _ c.in_err-cells.field-0.0 part
    (bad_cells c.args.number _ _ c.args.form.now.fields.now _ t.from t.to t.first t.second
    c.in_ok-source.source
    (sym (c.requires.found.source t.from t.first c.args.number 1) ∙ sym c.in_ok-source.ensures)
    c.in_ok-target.target
    (sym (c.requires.found.target t.to t.second c.args.number 2) ∙ sym c.in_ok-target.ensures)))

pub returns : goal.returns
returns c =
    let t = two_texts (fields_of c.args.pending.now.texts) _ c.requires.wide in
    let part = rw (c.into_vec-cells.ensures ∙ c.requires.empty) at c.in_ok-cells.ensures in
    whole_rel c.args.number _ _ c.args.form.now.fields.now _ t.from t.to t.first t.second
    c.in_ok-source.source
    (sym (c.requires.found.source t.from t.first c.args.number 1) ∙ sym c.in_ok-source.ensures)
    c.in_ok-target.target
    (sym (c.requires.found.target t.to t.second c.args.number 2) ∙ sym c.in_ok-target.ensures)
    c.in_ok-cells.cells part
