use Rattle.std.proofs.Common.{◌+◌, ap, ◌∙◌}
use Rattle.gq_base.specs.declared.direction.Direction.TheVariants.{Forward}
use Rattle.gq_store.specs.Places.{number_at}
use Rattle.gq_store.proofs.Reading.{forward_told, listed_row, number_in_pages, paged_is}
use Rattle.gq_store.proofs.graph.Graph.first_place.Goals as goal

pub start-requires : goal.start-requires
start-requires c = (listed_row c.args.self.now c.args.rel c.args.row Forward _ _ (c.links-links.ensures.linked.sides Forward) c.in-Listed.is c.requires.row).0

pub returns-in-Listed : goal.returns-in-Listed
returns-in-Listed c = λ k low.
    let g = c.args.self.now in
    let rel = c.args.rel in
    let many = (paged_is g rel _ _ c.links-links.ensures.linked c.in-Paged.is).0 in
    ap (λ s. number_at g rel (s + k)) c.start.ensures ∙ number_in_pages g rel _ many
    ∙ (forward_told g rel c.args.row k _ _ (c.links-links.ensures.linked.sides Forward) c.in-Listed.is c.requires.row low).1
