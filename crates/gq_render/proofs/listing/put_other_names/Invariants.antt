use Rattle.std.proofs.Common.{◌≡◌, take, flat_map}
use Rattle.gq_io.specs.Putting.{Put}
use Rattle.gq_render.specs.Texts.{after_tab, name_text}
use Rattle.gq_render.proofs.listing.put_other_names.Given as goal

abbrev pub invariant-loop-column : goal.invariant-loop-column
invariant-loop-column g l =
    Put (g.O.Sink.taken l.initial.out) (g.O.Sink.taken l.out) l.initial.batch l.batch (flat_map (λ c. after_tab (name_text c.name)) (take l.column-index l.columns))
    × (g.O.Sink.faults l.out ≡ g.O.Sink.faults l.initial.out)
