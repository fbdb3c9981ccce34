use Rattle.std.proofs.Common.{◌-◌, ◌∙◌, [], arith}
use Rattle.gq_io.proofs.Counts.{Rose-since}
use Rattle.gq_reply.specs.Replies.{context_of}
use Rattle.gq_shell.proofs.Quizzing.{all_asked, broke, next_number}
use Rattle.gq_shell.proofs.showing.ask_all.Goals as goal

pub returns-in-Err : goal.returns-in-Err
returns-in-Err g c = (
  broke (context_of c.args.replier.now) [] _ (c.loop-number.number - 1) c.loop-number.number (omega (arith, c.loop-number.invariant.0))
      (omega (arith, c.loop-number.invariant.0, c.loop-number-test.true)) c.loop-number.worst _ _ _ c.loop-number.invariant.2 c.in-Err.ensures.replies.bytes,
  Rose-since _ _ _ c.loop-number.invariant.3 c.in-Err.ensures.replies.cause.failed,
)

pub loop-number-preserved : goal.loop-number-preserved
loop-number-preserved g c = (
  omega (arith, c.loop-number.invariant.0),
  omega (arith, c.loop-number-test.true),
  rw c.worse-worst.ensures (next_number (context_of c.args.replier.now) [] _ _ c.loop-number.number c.loop-number.invariant.0 c.loop-number.worst c.in-Ok.tone _ _ _ c.loop-number.invariant.2 c.in-Ok.ensures.replies.bytes),
  c.in-Ok.ensures.replies.cause.kept ∙ c.loop-number.invariant.3,
  c.in-Ok.ensures.ready,
)

pub returns : goal.returns
returns g c = (
  (
    c.loop-number.workspace.params,
    all_asked (context_of c.args.replier.now) [] _ c.loop-number.number c.loop-number.invariant.1 c.loop-number-test.false c.loop-number.worst _ _ c.loop-number.invariant.2,
  ),
  c.loop-number.invariant.3,
)
