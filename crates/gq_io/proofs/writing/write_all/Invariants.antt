use Rattle.std.proofs.Common.{◌≡◌, ◌-◌, ◌≤◌, length, take}
use Rattle.std.specs.Io.KnownBytes.{Appends}
use Rattle.gq_io.proofs.writing.write_all.Given as goal

abbrev pub invariant-loop-at : goal.invariant-loop-at
invariant-loop-at g l = (l.at ≤ length l.piece) × Appends (g.O.Sink.taken l.initial.out) (g.O.Sink.taken l.out) (take l.at l.piece) × (g.O.Sink.faults l.out ≡ g.O.Sink.faults l.initial.out)

abbrev pub decreases-loop-at : goal.decreases-loop-at
decreases-loop-at g l = length l.piece - l.at
