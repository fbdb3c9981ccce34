use Rattle.std.proofs.Common.{inl, inr, refl}
use Rattle.gq_reply.proofs.Replying.{answered, replied, wants_memory}
use Rattle.gq_reply.specs.Replies.{context_of}
use Rattle.gq_session.specs.declared.answering.Tone.TheVariants as tone
use Rattle.gq_reply.proofs.replier.Replier.reply_to_query.Goals as goal

pub returns-in-Ok-clause-asks : goal.returns-in-Ok-clause-asks
returns-in-Ok-clause-asks g c = λ query statement is.
    let found = c.in-Ok.found in
    let text = answered (context_of c.args.self.now) c.args.profiled query c.args.bound.now found.spent found.listing.pushed found.listing.lines (c.in-Ok.ensures.spends query statement is) in
    replied _ tone.Good _ (found.listing.lines, c.in-Ok.ensures.permitted query statement is, text) _ _ c.write_answer.ensures.bytes c.write_answer.ensures.cause _ c.toned.ensures

pub returns-in-Err-Fault-clause-asks : goal.returns-in-Err-Fault-clause-asks
returns-in-Err-Fault-clause-asks g c = λ query statement is.
    let permitted = rw c.in-Err-Fault.field-0-is at c.in-Err-Fault.ensures.permitted query statement is in
    replied _ tone.Refused _ (inl (c.in-Err-Fault.fault, permitted, refl)) _ _ c.write_fault.ensures.bytes c.write_fault.ensures.cause _ c.toned-in-Err-Fault.ensures

pub returns-in-Err-TooManyRows-clause-asks : goal.returns-in-Err-TooManyRows-clause-asks
returns-in-Err-TooManyRows-clause-asks g c = λ query statement is.
    let permitted = rw c.in-Err-TooManyRows.field-0-is at c.in-Err-TooManyRows.ensures.permitted query statement is in
    replied _ tone.Refused _ (inr (permitted.1, refl)) _ _ c.write_many.ensures.bytes c.write_many.ensures.cause _ c.toned-in-Err-TooManyRows.ensures

pub returns-in-Err-Memory-clause-asks : goal.returns-in-Err-Memory-clause-asks
returns-in-Err-Memory-clause-asks g c = λ query statement is.
    wants_memory _ c.in-Err-Memory.memory refl _ _ c.reply_memory.ensures
