use Rattle.gq_core.proofs.Coring.{if_cored}
use Rattle.gq_core.proofs.cored.core_in.Goals as goal

pub returns : goal.returns
returns c = if_cored c.args.clauses.now _ c.in_ok-trailed.ensures c.core_read.result c.core_read.ensures
