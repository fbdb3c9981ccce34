use Rattle.gq_reply.proofs.Replying.{turned}
use Rattle.gq_reply.proofs.replier.ReplierAnswerer.answer.Goals as goal

pub returns-clause-bytes : goal.returns-clause-bytes
returns-clause-bytes g c = turned _ _ _ _ _ _ c.reply.ensures.replies c.reply.ensures.behind
