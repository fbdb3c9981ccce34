use Rattle.std.proofs.Common.{◌≡◌, ◌-◌, ◌≤◌, []}
use Rattle.gq_reply.specs.Replies.{context_of}
use Rattle.gq_session.specs.Replies.{Wrote}
use Rattle.gq_shell.proofs.Quizzing.{first}
use Rattle.gq_shell.specs.Questions.{IsNumbered}
use Rattle.gq_shell.specs.Serving.{IsReady}
use Rattle.gq_shell.proofs.showing.ask_all.Given as goal

abbrev pub invariant-loop-number : goal.invariant-loop-number
invariant-loop-number g l =
    (1 ≤ l.number) × (l.number ≤ 7) × Wrote (IsNumbered (context_of l.replier)) [] l.workspace.params (first (context_of l.replier) (l.number - 1)) l.worst (g.O.Sink.taken l.initial.out) (g.O.Sink.taken l.out)
    × (g.O.Sink.faults l.out ≡ g.O.Sink.faults l.initial.out)
    × IsReady l.workspace
