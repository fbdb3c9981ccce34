use Rattle.std.proofs.lemmas.Result.{err_from_is_err_and}
use Rattle.gq_binder.proofs.Checked.{refused_early}
use Rattle.gq_syntax.proofs.Whole.{spelled_stands}
use Rattle.gq_binder.proofs.bound.bind_parts.Goals as goal

pub read_query-requires-clause-whole : goal.read_query-requires-clause-whole
read_query-requires-clause-whole c = spelled_stands c.args.text.now c.args.query.now c.requires.spelled

pub check-requires : goal.check-requires
check-requires c = (spelled_stands c.args.text.now c.args.query.now c.requires.spelled).items

pub returns-in_err-check : goal.returns-in_err-check
returns-in_err-check c =
    let p = err_from_is_err_and c.from_residual-in_err-check.result c.from_residual-in_err-check.ensures.1 in
    rw (p.1, p.2) (refused_early c.args.query.now c.args.text.now c.args.catalog.now c.read_query.new.parts c.in_err-check.field-0.0 c.in_ok-read_query.ensures c.in_err-check.ensures)
