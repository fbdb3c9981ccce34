use Rattle.std.proofs.Common.{◌≡◌, ◌≤◌, length, take}
use Rattle.gq_session.specs.Feeding.{scan_of}
use Rattle.gq_session.proofs.Going.{Came}
use Rattle.gq_session.proofs.run.take_piece.Given as goal

abbrev pub invariant-loop-byte : goal.invariant-loop-byte
invariant-loop-byte g l = record {
  fits : l.scan.filled ≤ length l.statement;
  came : Came (g.A.Answerer.answers l.answerer) (g.A.Answerer.state l.initial.workspace) (g.A.Answerer.state l.workspace) (length l.initial.statement) l.most (scan_of l.initial.scan l.initial.statement) (take l.byte-index l.piece)
      (scan_of l.scan l.statement) l.worst (g.O.Sink.taken l.initial.out) (g.O.Sink.taken l.out);
  ready : g.A.Answerer.ready l.workspace;
  still : g.O.Sink.faults l.out ≡ g.O.Sink.faults l.initial.out;
}
