use Rattle.std.proofs.Common.{not}
use Rattle.std.specs.Prelude.{◌==◌, slice_index}
use Rattle.gq_lanes.proofs.Kept.{Kept}
use Rattle.gq_lanes.proofs.identities.keep_other_id.Given as goal

abbrev pub invariant-loop-index : goal.invariant-loop-index
invariant-loop-index l = Kept (λ k. not (slice_index l.ids k == l.id)) l.index l.initial.marks l.marks
