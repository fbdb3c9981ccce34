use Rattle.gq_store.proofs.Keeping.{rel_property_at}
use Rattle.gq_store.proofs.graph.Graph.rel_property.Goals as goal

pub returns-clause-cells : goal.returns-clause-cells
returns-clause-cells c = (rel_property_at _ _ _ _ _ _ _ c.self.invariant.rel_cells c.self.view_is c.requires.within c.index.ensures c.requires.property c.index-2.ensures).cells_are

pub returns-clause-kind : goal.returns-clause-kind
returns-clause-kind c = (rel_property_at _ _ _ _ _ _ _ c.self.invariant.rel_cells c.self.view_is c.requires.within c.index.ensures c.requires.property c.index-2.ensures).kind_is
