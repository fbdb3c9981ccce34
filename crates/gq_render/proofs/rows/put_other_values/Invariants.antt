use Rattle.std.proofs.Common.{◌≡◌, ◌-◌, take, drop, flat_map}
use Rattle.gq_io.specs.Putting.{Put}
use Rattle.gq_render.specs.Listings.{value_text}
use Rattle.gq_render.specs.Texts.{after_tab}
use Rattle.gq_render.specs.steps.Blocks.{line_of}
use Rattle.gq_render.proofs.rows.put_other_values.Given as goal

abbrev pub invariant-loop-column : goal.invariant-loop-column
invariant-loop-column g l =
    Put (g.O.Sink.taken l.initial.out) (g.O.Sink.taken l.out) l.initial.batch l.batch (flat_map (λ v. after_tab (value_text l.block.graph v)) (take (l.column - l.first) (drop l.first (line_of l.block l.row))))
    × (g.O.Sink.faults l.out ≡ g.O.Sink.faults l.initial.out)
