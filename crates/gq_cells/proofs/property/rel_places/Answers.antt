use Rattle.std.proofs.Common.{◌∙◌, ap, length}
use Rattle.gq_store.proofs.Placing.{length-rel_cells}
use Rattle.gq_cells.proofs.property.rel_places.Goals as goal

pub returns : goal.returns
returns c = c.len.ensures ∙ ap length c.rel_property.ensures.cells ∙ length-rel_cells c.args.graph.now c.args.table c.args.property
