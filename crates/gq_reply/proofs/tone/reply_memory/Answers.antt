use Rattle.std.proofs.Common.{refl}
use Rattle.gq_reply.proofs.Replying.{replied}
use Rattle.gq_session.specs.declared.answering.Tone.TheVariants as tone
use Rattle.gq_reply.proofs.tone.reply_memory.Goals as goal

pub returns : goal.returns
returns g c = replied _ (tone.Memory c.args.memory) _ (refl, refl) _ _ c.write_error.ensures.bytes c.write_error.ensures.cause _ c.toned.ensures
