use Rattle.std.proofs.Common.{◌∙◌, ap, sym}
use Rattle.std.specs.Prelude.{slice_index}
use Rattle.gq_group.specs.Chunks.{items_in}
use Rattle.gq_listed.proofs.Leading.{standing}
use Rattle.gq_listed.proofs.leads.Spot.item.Goals as goal

pub bounds-self-group : goal.bounds-self-group
bounds-self-group c = (standing c.args.self.now.chunk.now c.args.self.now.positions.now c.args.group c.group-here.result.now c.requires.spot.chunk.chunk c.requires.spot.selected c.group-here.ensures).within

pub item-requires-clause-piece : goal.item-requires-clause-piece
item-requires-clause-piece c = (standing c.args.self.now.chunk.now c.args.self.now.positions.now c.args.group c.group-here.result.now c.requires.spot.chunk.chunk c.requires.spot.selected c.group-here.ensures).piece

pub item-requires-clause-position : goal.item-requires-clause-position
item-requires-clause-position c = (standing c.args.self.now.chunk.now c.args.self.now.positions.now c.args.group c.group-here.result.now c.requires.spot.chunk.chunk c.requires.spot.selected c.group-here.ensures).low

pub returns : goal.returns
returns c = c.item.ensures ∙ ap (λ o. slice_index (items_in o) (slice_index c.args.self.now.positions.now c.args.group)) (sym c.group-here.ensures)
