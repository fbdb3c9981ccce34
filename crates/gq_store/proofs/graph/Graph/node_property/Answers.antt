use Rattle.gq_store.proofs.Keeping.{node_property_at}
use Rattle.gq_store.proofs.graph.Graph.node_property.Goals as goal

pub returns-clause-cells : goal.returns-clause-cells
returns-clause-cells c = (node_property_at _ _ _ _ _ _ _ c.self.invariant.node_cells c.self.view_is c.requires.within c.index.ensures c.requires.property c.index-2.ensures).cells_are

pub returns-clause-kind : goal.returns-clause-kind
returns-clause-kind c = (node_property_at _ _ _ _ _ _ _ c.self.invariant.node_cells c.self.view_is c.requires.within c.index.ensures c.requires.property c.index-2.ensures).kind_is
