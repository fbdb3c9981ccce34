use Rattle.std.proofs.Common.{◌∙◌}
use Rattle.gq_expr.proofs.Occurs.{found_is}
use Rattle.gq_filter.proofs.text_test.is_found.Goals as goal

pub returns : goal.returns
returns c = c.is_some.ensures ∙ found_is c.args.text.now c.args.part.now c.find.result c.find.ensures
