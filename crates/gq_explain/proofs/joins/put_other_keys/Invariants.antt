use Rattle.std.proofs.Common.{◌≡◌, take, flat_map}
use Rattle.gq_io.specs.Putting.{Put}
use Rattle.gq_explain.specs.Plans.{next_key}
use Rattle.gq_explain.proofs.joins.put_other_keys.Given as goal

abbrev pub invariant-loop-key : goal.invariant-loop-key
invariant-loop-key g l =
    Put (g.O.Sink.taken l.initial.out) (g.O.Sink.taken l.out) l.initial.batch l.batch (flat_map (next_key l.naming.bound.now l.naming.catalog.now l.naming.typed.now) (take l.key-index l.keys))
    × (g.O.Sink.faults l.out ≡ g.O.Sink.faults l.initial.out)
