use Rattle.gq_lanes.proofs.Masks.{id_bit}
use Rattle.gq_lanes.proofs.lanes.id_lanes.Goals as goal

pub returns : goal.returns
returns c = λ i h. id_bit c.args.ids.now c.args.id i c.requires h
