use Rattle.std.proofs.Common.{◌∙◌, ap, arith, sym}
use Rattle.std.proofs.lemmas.Result.{err_from_is_err_and}
use Rattle.gq_tables.proofs.Answering.{passed_on}
use Rattle.gq_tables.proofs.TableSteps.{few_left, key_refused, row_refused, whole_nodes}
use Rattle.gq_tables.proofs.Validity.{node_table_good}
use Rattle.gq_tables.specs.Nodes.{node_table}
use Rattle.gq_tables.specs.Records.{records_of}
use Rattle.gq_tables.proofs.nodes.read_nodes.Goals as goal

pub read_rows-requires-clause-few_records : goal.read_rows-requires-clause-few_records
read_rows-requires-clause-few_records c =
    few_left _ _ _ _ c.args.bytes.now c.in_ok-fields.ensures.rest c.open_records-reader.ensures.left
    c.requires

pub with_distinct_keys-requires : goal.with_distinct_keys-requires
with_distinct_keys-requires c =
    let few = few_left _ _ _ _ c.args.bytes.now c.in_ok-fields.ensures.rest
    c.open_records-reader.ensures.left c.requires in
    let short = c.in_ok-read.ensures.short in
    omega arith

pub returns-in_err-rows-clause-answers : goal.returns-in_err-rows-clause-answers
returns-in_err-rows-clause-answers c =
    let p = err_from_is_err_and c.from_residual-in_err-rows.result
    c.from_residual-in_err-rows.ensures.1 in
    let read = rw c.as_slice.ensures at c.in_ok-read.ensures.reads in
    let left = ap (node_table c.args.limit) (sym c.open_records-reader.ensures.left) in
    rw (p.1, p.2) (passed_on _ _ c.in_err-rows.field-0.0 c.in_err-rows.ensures.answers
    (λ refusal e. left ∙ key_refused c.args.limit _ _ _ c.in_ok-fields.ensures.rest
    c.in_ok-read.read.rows c.in_ok-read.read.stop read refusal e))

pub returns-in-Some-clause-answers : goal.returns-in-Some-clause-answers
returns-in-Some-clause-answers c =
    let read = rw c.as_slice.ensures at c.in_ok-read.ensures.reads in
    let left = ap (node_table c.args.limit) (sym c.open_records-reader.ensures.left) in
    left ∙ row_refused c.args.limit _ _ _ c.in_ok-fields.ensures.rest
    c.in_ok-read.read.rows c.in_ok-read.read.stop read c.in-Some.refusal
    c.in_ok-rows.rows c.in_ok-rows.ensures.answers c.in-Some.is

pub returns-clause-answers : goal.returns-clause-answers
returns-clause-answers c =
    let read = rw c.as_slice.ensures at c.in_ok-read.ensures.reads in
    let left = ap (node_table c.args.limit) (sym c.open_records-reader.ensures.left) in
    left ∙ whole_nodes c.args.limit _ _ _ c.in_ok-fields.ensures.rest
    c.in_ok-read.read.rows c.in_ok-read.read.stop read
    c.in_ok-rows.rows c.in_ok-rows.ensures.answers c.in-None.is

pub returns-clause-valid : goal.returns-clause-valid
returns-clause-valid c =
    node_table_good c.args.limit (records_of c.args.bytes.now) _ (returns-clause-answers c)
