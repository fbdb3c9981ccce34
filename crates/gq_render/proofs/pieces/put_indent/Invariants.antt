use Rattle.std.proofs.Common.{◌≡◌, codes, take, flat_map}
use Rattle.std.specs.List.{range_with_len}
use Rattle.gq_io.specs.Putting.{Put}
use Rattle.gq_render.proofs.pieces.put_indent.Given as goal

abbrev pub invariant-loop-at : goal.invariant-loop-at
invariant-loop-at g l =
    Put (g.O.Sink.taken l.initial.out) (g.O.Sink.taken l.out) l.initial.batch l.batch (flat_map (λ _. codes "  ") (take l._at (range_with_len 0 l.level)))
    × (g.O.Sink.faults l.out ≡ g.O.Sink.faults l.initial.out)
