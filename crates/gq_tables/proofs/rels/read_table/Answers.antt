use Rattle.std.proofs.Common.{◌∙◌, ap, sym}
use Rattle.std.proofs.lemmas.Result.{err_from_is_err_and}
use Rattle.gq_tables.proofs.Answering.{passed_on}
use Rattle.gq_tables.proofs.TableSteps.{few_left, rel_refused, whole_rels}
use Rattle.gq_tables.proofs.Validity.{rel_table_good}
use Rattle.gq_tables.specs.steps.Batches.{sources_of, targets_of}
use Rattle.gq_tables.specs.Records.{records_of}
use Rattle.gq_tables.specs.Rels.{rel_table}
use Rattle.gq_tables.proofs.rels.read_table.Goals as goal

pub read_records-requires-clause-few_records : goal.read_records-requires-clause-few_records
read_records-requires-clause-few_records c =
    few_left _ _ _ _ c.args.bytes.now c.in_ok-fields.ensures.rest c.open_records-reader.ensures.left
    c.requires.few_bytes

pub returns-in_err-rels-clause-answers : goal.returns-in_err-rels-clause-answers
returns-in_err-rels-clause-answers c =
    let p = err_from_is_err_and c.from_residual-in_err-rels.result
    c.from_residual-in_err-rels.ensures.1 in
    let part = rw c.as_slice.ensures at c.in_err-rels.ensures.answers in
    let left = ap (rel_table (sources_of c.args.ends) (targets_of c.args.ends) c.args.mult
    c.args.limit) (sym c.open_records-reader.ensures.left) in
    rw (p.1, p.2) (passed_on _ _ c.in_err-rels.field-0.0 part
    (λ refusal e. left ∙ rel_refused
    (sources_of c.args.ends) (targets_of c.args.ends)
    c.args.mult c.args.limit _ _ _ c.in_ok-fields.ensures.rest refusal e))

pub returns-clause-answers : goal.returns-clause-answers
returns-clause-answers c =
    let part = rw c.as_slice.ensures at c.in_ok-rels.ensures.answers in
    let left = ap (rel_table (sources_of c.args.ends) (targets_of c.args.ends) c.args.mult
    c.args.limit) (sym c.open_records-reader.ensures.left) in
    left ∙ whole_rels (sources_of c.args.ends) (targets_of c.args.ends) c.args.mult c.args.limit _ _
    _ c.in_ok-fields.ensures.rest c.in_ok-rels.rels part

pub returns-clause-valid : goal.returns-clause-valid
returns-clause-valid c =
    rel_table_good (sources_of c.args.ends) (targets_of c.args.ends) c.args.mult c.args.limit
    (records_of c.args.bytes.now) _ (returns-clause-answers c)
