use Rattle.std.specs.Prelude.{◌&&◌}
use Rattle.gq_bits.specs.Places.{is_marked}
use Rattle.gq_lanes.specs.Tests.{compares, cell}
use Rattle.gq_lanes.proofs.Kept.{Kept}
use Rattle.gq_lanes.proofs.columns.keep_const.Given as goal

abbrev pub invariant-loop-index : goal.invariant-loop-index
invariant-loop-index l = Kept (λ k. is_marked l.known k && compares l.op (cell l.cells k) l.constant) l.index l.initial.marks l.marks
