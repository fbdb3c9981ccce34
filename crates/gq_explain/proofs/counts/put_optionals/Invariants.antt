use Rattle.std.proofs.Common.{◌≡◌, length, take, flat_map}
use Rattle.std.specs.List.{range_with_len}
use Rattle.gq_io.specs.Putting.{Put}
use Rattle.gq_explain.specs.Plans.{optional_at}
use Rattle.gq_explain.proofs.counts.put_optionals.Given as goal

abbrev pub invariant-loop-at : goal.invariant-loop-at
invariant-loop-at g l =
    Put (g.O.Sink.taken l.initial.out) (g.O.Sink.taken l.out) l.initial.batch l.batch (flat_map (optional_at l.bound) (take l.at (range_with_len 0 (length l.bound.optionals))))
    × (g.O.Sink.faults l.out ≡ g.O.Sink.faults l.initial.out)
