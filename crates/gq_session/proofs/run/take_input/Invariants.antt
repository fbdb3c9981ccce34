use Rattle.std.proofs.Common.{◌-◌, ◌+◌, ◌≤◌, length}
use Rattle.gq_session.specs.Feeding.{scan_of}
use Rattle.gq_session.proofs.Going.{Going, span}
use Rattle.gq_session.proofs.run.take_input.Given as goal

abbrev pub invariant-pieces : goal.invariant-pieces
invariant-pieces g l = record {
  fits : l.scan.filled ≤ length l.statement;
  ready : g.A.Answerer.ready l.workspace;
  going : Going (g.A.Answerer.answers l.answerer) (g.A.Answerer.state l.initial.workspace) (g.A.Answerer.state l.workspace) (length l.initial.statement) l.most (scan_of l.scan l.statement) l.worst
      (span (g.I.Source.left l.initial.input) (g.I.Source.left l.input) (g.I.Source.faults l.initial.input) (g.I.Source.faults l.input))
      (span (g.O.Sink.taken l.initial.out) (g.O.Sink.taken l.out) (g.O.Sink.faults l.initial.out) (g.O.Sink.faults l.out));
}

abbrev pub decreases-pieces : goal.decreases-pieces
decreases-pieces g l = l.most + 1 - l.scan.total
