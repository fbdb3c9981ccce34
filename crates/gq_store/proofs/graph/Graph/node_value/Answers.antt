use Rattle.std.proofs.Common.{ap, ◌∙◌}
use Rattle.gq_base.specs.Plain.{cell_val}
use Rattle.gq_store.proofs.Keeping.{node_cell_of}
use Rattle.gq_store.proofs.graph.Graph.node_value.Goals as goal

pub value-requires : goal.value-requires
value-requires c = (node_cell_of c.args.self.now c.args.table c.args.property c.args.row _ c.node_property.ensures.cells c.requires.row).0

pub returns : goal.returns
returns c = c.value.ensures ∙ ap cell_val (node_cell_of c.args.self.now c.args.table c.args.property c.args.row _ c.node_property.ensures.cells c.requires.row).1
