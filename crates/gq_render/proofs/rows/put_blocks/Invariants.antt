use Rattle.std.proofs.Common.{◌≡◌, ◌-◌, ◌≤◌, [], length, take, flat_map}
use Rattle.std.specs.Prelude.{slice_index_or}
use Rattle.gq_io.specs.Putting.{Put}
use Rattle.gq_render.specs.steps.Fronts.{IsFront}
use Rattle.gq_render.specs.Listings.{row_text}
use Rattle.gq_render.proofs.rows.put_blocks.Given as goal

abbrev pub invariant-loop-first : goal.invariant-loop-first
invariant-loop-first g l =
    Put (g.O.Sink.taken l.initial.out) (g.O.Sink.taken l.out) l.initial.batch l.batch (flat_map (row_text l.graph) (take l.first l.listing.lines))
    × (g.O.Sink.faults l.out ≡ g.O.Sink.faults l.initial.out)
    × IsFront l.graph (slice_index_or l.listing.lines l.first []) l.front
    × (l.first ≤ length l.listing.lines)

abbrev pub decreases-loop-first : goal.decreases-loop-first
decreases-loop-first g l = length l.listing.lines - l.first
