use Rattle.std.proofs.Common.{Err, ap, refl, subst, ◌∙◌}
use Rattle.gq_base.specs.declared.memory.Memory.TheVariants.{Exhausted}
use Rattle.gq_reply.proofs.Replying.{by_memory, by_tone, replied, wants_memory, wrong_depth, wrong_lex, wrong_unknown}
use Rattle.gq_session.specs.declared.answering.Tone.TheVariants as tone
use Rattle.gq_syntax.specs.Outcomes.{Cause}
use Rattle.gq_syntax.specs.RefusalNames.{name_of}
use Rattle.gq_reply.proofs.replier.Replier.reply_to_refused.Goals as goal

pub returns-in-Lex-clause-replies : goal.returns-in-Lex-clause-replies
returns-in-Lex-clause-replies g c = λ params cause.
    let lexes = subst (λ why. Cause c.args.statement.now params (Err why)) c.in-Lex.is cause in
    replied _ tone.Refused _ (wrong_lex _ params _ _ _ (c.name-why.ensures ∙ ap name_of c.in-Lex.is) lexes) _ _ c.write_at.ensures.bytes c.write_at.ensures.cause _ c.toned.ensures

pub returns-in-Lex-clause-behind : goal.returns-in-Lex-clause-behind
returns-in-Lex-clause-behind g c = by_tone _ tone.Refused (λ params. refl) _ _ c.toned.ensures

pub reply_to_syntax-requires : goal.reply_to_syntax-requires
reply_to_syntax-requires g c = record { named = c.name-why.ensures ∙ ap name_of c.in-Syntax.is; cause = c.requires.syntax _ c.in-Syntax.is }

pub returns-in-Syntax-clause-replies : goal.returns-in-Syntax-clause-replies
returns-in-Syntax-clause-replies g c = λ params cause. c.reply_to_syntax.ensures.replies params

pub returns-in-Depth-clause-replies : goal.returns-in-Depth-clause-replies
returns-in-Depth-clause-replies g c = λ params cause.
    let deep = subst (λ why. Cause c.args.statement.now params (Err why)) c.in-Depth.is cause in
    replied _ tone.Refused _ (wrong_depth _ params _ _ _ (c.name-why.ensures ∙ ap name_of c.in-Depth.is) deep) _ _ c.write_at-in-Depth.ensures.bytes c.write_at-in-Depth.ensures.cause _ c.toned-in-Depth.ensures

pub returns-in-Depth-clause-behind : goal.returns-in-Depth-clause-behind
returns-in-Depth-clause-behind g c = by_tone _ tone.Refused (λ params. refl) _ _ c.toned-in-Depth.ensures

pub returns-in-UnknownParameter-clause-replies : goal.returns-in-UnknownParameter-clause-replies
returns-in-UnknownParameter-clause-replies g c = λ params cause.
    let unknown = subst (λ why. Cause c.args.statement.now params (Err why)) c.in-UnknownParameter.is cause in
    replied _ tone.Refused _ (wrong_unknown _ params _ _ _ (c.name-why.ensures ∙ ap name_of c.in-UnknownParameter.is) unknown) _ _ c.write_named.ensures.bytes c.write_named.ensures.cause _
    c.toned-in-UnknownParameter.ensures

pub returns-in-UnknownParameter-clause-behind : goal.returns-in-UnknownParameter-clause-behind
returns-in-UnknownParameter-clause-behind g c = by_tone _ tone.Refused (λ params. refl) _ _ c.toned-in-UnknownParameter.ensures

pub returns-in-Memory-clause-replies : goal.returns-in-Memory-clause-replies
returns-in-Memory-clause-replies g c = λ params cause. wants_memory _ Exhausted refl _ _ c.reply_memory.ensures

pub returns-in-Memory-clause-behind : goal.returns-in-Memory-clause-behind
returns-in-Memory-clause-behind g c = by_memory _ Exhausted (λ params. refl) _ _ c.reply_memory.ensures
