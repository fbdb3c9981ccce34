use Rattle.gq_cells.proofs.Columns.{node_source}
use Rattle.gq_cells.proofs.property.node_property.Goals as goal

pub returns : goal.returns
returns c = node_source c.args.graph.now c.args.table c.args.property c.node_property.result c.node_property.ensures.cells
