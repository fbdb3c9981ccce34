use Rattle.gq_store.proofs.Reading.{column_singles}
use Rattle.gq_store.proofs.graph.Graph.singles.Goals as goal

pub returns : goal.returns
returns c = column_singles c.args.self.now c.args.rel c.args.direction _ _ c.side.ensures.side c.in-Single.is c.side.ensures.valid c.requires.within
