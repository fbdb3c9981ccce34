use Rattle.gq_cells.proofs.Barred.{known_there}
use Rattle.gq_cells.proofs.behind.known_among.Goals as goal

pub returns : goal.returns
returns c = known_there c.args.column.now c.args.first c.args.count _ c.gather_span.new.out c.gather_span.new.known c.gather_span.ensures c.requires.inside
