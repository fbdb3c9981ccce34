use Rattle.std.proofs.Common.{None, Some, ◌∙◌, sym}
use Rattle.gq_group.specs.Pieces.{items_of}
use Rattle.gq_pipe.proofs.Filling.{found_or}
use Rattle.gq_pipe.proofs.origins.item_at.Goals as goal

pub returns-in-None : goal.returns-in-None
returns-in-None c = found_or (items_of c.args.piece) c.args.position 0 None (sym c.in-None.is ∙ c.item_of.ensures)

pub returns-in-Some : goal.returns-in-Some
returns-in-Some c = found_or (items_of c.args.piece) c.args.position 0 (Some c.in-Some.item) (sym c.in-Some.is ∙ c.item_of.ensures)
