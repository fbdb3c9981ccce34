use Rattle.std.proofs.Common.{◌≡◌, ◌-◌, take, drop, flat_map}
use Rattle.gq_io.specs.Putting.{Put}
use Rattle.gq_render.specs.steps.Blocks.{line_of}
use Rattle.gq_render.specs.steps.Fronts.{IsFront}
use Rattle.gq_render.specs.Listings.{row_text}
use Rattle.gq_render.proofs.rows.put_lines.Given as goal

abbrev pub invariant-loop-row : goal.invariant-loop-row
invariant-loop-row g l =
    Put (g.O.Sink.taken l.initial.out) (g.O.Sink.taken l.out) l.initial.batch l.batch (flat_map (row_text l.block.graph) (take (l.row - l.first) (drop l.first l.block.lines)))
    × (g.O.Sink.faults l.out ≡ g.O.Sink.faults l.initial.out)
    × IsFront l.block.graph (line_of l.block l.row) l.front
