use Rattle.std.proofs.Common.{◌∙◌, sym, arith}
use Rattle.gq_sift.proofs.finding.number_at.Goals as goal

pub edge_place-place-requires-clause-position : goal.edge_place-place-requires-clause-position
edge_place-place-requires-clause-position c = omega (arith, c.requires.position, c.requires.part.inside)

pub returns : goal.returns
returns c = sym c.edge_place-place.ensures.number ∙ c.edge_number.ensures.number
