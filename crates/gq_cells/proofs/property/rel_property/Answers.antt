use Rattle.gq_cells.proofs.Columns.{rel_source}
use Rattle.gq_cells.proofs.property.rel_property.Goals as goal

pub returns : goal.returns
returns c = rel_source c.args.graph.now c.args.table c.args.property c.rel_property.result c.rel_property.ensures.cells
