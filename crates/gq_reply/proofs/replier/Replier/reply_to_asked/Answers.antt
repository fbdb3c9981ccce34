use Rattle.std.proofs.Common.{Err, subst}
use Rattle.gq_bound.specs.Binding.{Answers}
use Rattle.gq_reply.proofs.Ready.{ready}
use Rattle.gq_reply.proofs.Replying.{may_reply, refusal_is, replied, replied_as, unbound}
use Rattle.gq_reply.specs.Replies.{asked_by}
use Rattle.gq_reply.proofs.replier.Replier.reply_to_asked.Goals as goal

pub reply_to_query-requires-clause-ready : goal.reply_to_query-requires-clause-ready
reply_to_query-requires-clause-ready g c = ready _ _ _ _ (rw c.catalog.ensures.value at c.in-Ok.ensures.answers)

pub returns-in-Ok-clause-replies : goal.returns-in-Ok-clause-replies
returns-in-Ok-clause-replies g c = λ params spelled.
    let is = rw c.catalog.ensures.value at c.in-Ok.ensures.answers in
    replied_as _ _ (may_reply _ params _ c.args.query.now c.in-Ok.bound (record { profiled = c.args.profiled; spelled = spelled; binds = is })) _ _ (c.reply_to_query.ensures.asks c.args.query.now c.args.statement.now is)

pub returns-in-Err-clause-replies : goal.returns-in-Err-clause-replies
returns-in-Err-clause-replies g c = λ params spelled.
    let refused = subst (λ catalog. Answers c.args.query.now c.args.statement.now catalog (Err c.in-Err.refusal)) c.catalog.ensures.value c.in-Err.ensures.answers in
    replied _ c.tone_of.result _ (rw c.tone_of.ensures (unbound _ params _ (asked_by c.args.profiled c.args.query.now) spelled c.args.query.now (refusal_is c.args.profiled c.args.statement.now c.args.query.now _) c.in-Err.refusal refused))
    _ _ c.write_bind_refusal.ensures.bytes c.write_bind_refusal.ensures.cause _ c.toned.ensures
