use Rattle.gq_resolve.proofs.Walks.{node_depth}
use Rattle.gq_resolve.proofs.made.ColumnExprs.have_node.Goals as goal

pub have-requires : goal.have-requires
have-requires c = node_depth c.args.variable
