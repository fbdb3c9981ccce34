use Rattle.std.proofs.Common.{sym}
use Rattle.gq_reply.specs.Replies.{context_of}
use Rattle.gq_shell.proofs.Quizzing.{asked_text, later_cause, numbered, unnumbered}
use Rattle.gq_shell.proofs.showing.ask.Goals as goal

pub returns-in-Ok-clause-replies : goal.returns-in-Ok-clause-replies
returns-in-Ok-clause-replies g c = record {
  bytes = numbered (context_of c.args.replier.now) _ _ c.args.number c.requires.least c.requires.most _ _ _ _ c.in-Ok.ensures.bytes
      (rw (c.as_bytes.ensures.value, sym (asked_text c.args.number _ c.question.ensures)) at c.answer.ensures.bytes);
  cause = later_cause _ _ _ _ c.in-Ok.ensures.cause.kept c.answer.ensures.cause;
}

pub returns-in-Err-clause-replies : goal.returns-in-Err-clause-replies
returns-in-Err-clause-replies g c = record {
  bytes = unnumbered (context_of c.args.replier.now) _ c.args.number c.requires.least c.requires.most _ _ c.in-Err.ensures.bytes;
  cause = record { later = c.in-Err.ensures.cause.later; kept = tt; failed = c.in-Err.ensures.cause.failed };
}
