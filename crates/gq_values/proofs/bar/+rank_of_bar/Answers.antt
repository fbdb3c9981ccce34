use Rattle.std.proofs.Common.{arith, map}
use Rattle.gq_base.specs.Values.{val}
use Rattle.gq_values.proofs.SureRows.{level_at, level_without}
use Rattle.gq_values.proofs.bar.+rank_of_bar.Goals as goal

pub returns-in-empty : goal.returns-in-empty
returns-in-empty g t c = λ keys are. level_without c.args.sorts.now (map val c.args.bar.now) keys (omega (arith, c.in-empty.len_below))

pub returns-in-Equal : goal.returns-in-Equal
returns-in-Equal g t c = λ values are.
    let here = g.R.Assigned.assignment c.args.row.now in
    level_at here c.args.sorts.now c.args.keys.now c.sort-item.result c.key-item.result (map val c.args.bar.now) (map val c.split_first.result.1.now) values (val c.split_first.result.0) (val c.in-Ok.value)
    c.rank_of_bar.result c.in-len1-up.len_at_least c.requires c.sort-item.is c.key-item.is c.in-Ok.ensures c.split_first.ensures.first c.split_first.ensures.others c.in-Equal.ensures c.rank_of_bar.ensures are
