use Rattle.std.proofs.Common.{◌≡◌, ◌∙◌, ◌-◌, ◌++◌, ◌∷◌, [], Some, ap, arith, drop, length}
use Rattle.std.proofs.Common.{length-drop, sym, take}
use Rattle.std.proofs.lemmas.List.{take_all}
use Rattle.std.proofs.lemmas.Result.{err_from_is_err_and}
use Rattle.csv.specs.Records.{fields_of}
use Rattle.gq_tables.proofs.Answering.{passed_on}
use Rattle.gq_tables.proofs.RecordForms.{bad_key, no_text, one_key}
use Rattle.gq_tables.proofs.nodes.node_of.Goals as goal

pub returns-in_default-get : goal.returns-in_default-get
returns-in_default-get c =
    no_text c.args.number c.args.fields.now (fields_of c.args.texts.now)
    (sym c.in_default-get.ensures.value)

pub returns-in_err-cell : goal.returns-in_err-cell
returns-in_err-cell c =
    let p = err_from_is_err_and c.from_residual.result c.from_residual.ensures.1 in
    rw (p.1, p.2) (passed_on _ _ c.in_err-cell.field-0.0 c.in_err-cell.ensures
    (bad_key c.args.number c.args.fields.now (fields_of c.args.texts.now) c.key-item.result
    c.in-Some.text.now c.in-len1-up.len_at_least c.key-item.is (sym c.in-Some.ensures.value)))

pub returns : goal.returns
returns c =
    let whole = one_key c.args.number c.args.fields.now (fields_of c.args.texts.now)
    c.key-item.result
    c.in-Some.text.now c.in-len1-up.len_at_least c.key-item.is (sym c.in-Some.ensures.value)
    c.in_ok-cell.cell c.in_ok-cell.ensures in
    let cells = c.in_ok-push.ensures.items ∙ ap (λ l. l ++ Some c.in_ok-cell.cell ∷ [])
    (c.into_vec-cells.ensures ∙ c.requires.empty) in
    let fields = c.args.fields.now in
    let all : take (length fields - 1) (drop 1 fields) ≡ drop 1 fields =
    take_all (length fields - 1) (drop 1 fields) (omega (arith, length-drop 1 fields)) in
    rw whole (rw (cells, all) at c.read_cells.ensures)
