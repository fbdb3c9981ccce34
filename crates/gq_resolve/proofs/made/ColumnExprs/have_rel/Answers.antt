use Rattle.gq_resolve.proofs.Walks.{rel_depth}
use Rattle.gq_resolve.proofs.made.ColumnExprs.have_rel.Goals as goal

pub have-requires : goal.have-requires
have-requires c = rel_depth c.args.variable
