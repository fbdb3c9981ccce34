use Rattle.std.specs.Prelude.{◌==◌, slice_index}
use Rattle.gq_lanes.proofs.Bits.{AreBits}
use Rattle.gq_lanes.proofs.lanes.id_bits.Given as goal

abbrev pub invariant-loop-place : goal.invariant-loop-place
invariant-loop-place l = AreBits (λ i. slice_index l.ids i == l.id) l.place l.mask
