use Rattle.std.proofs.Common.{[], arith, inl, refl}
use Rattle.gq_io.proofs.Moved.{Appends-none}
use Rattle.gq_reply.proofs.Replying.{by_memory, by_tone, replied, wants_memory, wrong_syntax}
use Rattle.gq_session.specs.declared.answering.Tone.TheVariants as tone
use Rattle.gq_reply.proofs.replier.Replier.reply_to_syntax.Goals as goal

pub returns-in-Ok-true-clause-replies : goal.returns-in-Ok-true-clause-replies
returns-in-Ok-true-clause-replies g c = λ params.
    let blank = rw c.in-Ok-true.field-0-test at c.in-Ok-true.ensures in
    record { bytes = ([], inl (blank.0 refl, refl), Appends-none _); cause = record { later = omega arith; kept = refl; failed = tt } }

pub returns-in-Ok-true-clause-blank : goal.returns-in-Ok-true-clause-blank
returns-in-Ok-true-clause-blank g c = λ params.
    let blank = rw c.in-Ok-true.field-0-test at c.in-Ok-true.ensures in
    inl (blank.0 refl, refl)

pub returns-in-Ok-false-clause-replies : goal.returns-in-Ok-false-clause-replies
returns-in-Ok-false-clause-replies g c = λ params.
    let never = rw c.in-Ok-false.field-0-test at c.in-Ok-false.ensures in
    replied _ tone.Refused _ (wrong_syntax _ params _ _ _ c.requires.named (λ blank. cc (never.1 blank)) c.requires.cause) _ _ c.write_at.ensures.bytes c.write_at.ensures.cause _ c.toned.ensures

pub returns-in-Ok-false-clause-blank : goal.returns-in-Ok-false-clause-blank
returns-in-Ok-false-clause-blank g c = by_tone _ tone.Refused (λ params. refl) _ _ c.toned.ensures

pub returns-in-Err-clause-replies : goal.returns-in-Err-clause-replies
returns-in-Err-clause-replies g c = λ params. wants_memory _ c.in-Err.memory refl _ _ c.reply_memory.ensures

pub returns-in-Err-clause-blank : goal.returns-in-Err-clause-blank
returns-in-Err-clause-blank g c = by_memory _ c.in-Err.memory (λ params. refl) _ _ c.reply_memory.ensures
