use Rattle.gq_reply.proofs.Replying.{written_then}
use Rattle.gq_reply.proofs.replier.Replier.write_plans.Goals as goal

pub returns-in-Ok-clause-bytes : goal.returns-in-Ok-clause-bytes
returns-in-Ok-clause-bytes g c = written_then _ _ _ _ _ _ c.in-Ok.ensures.bytes c.write_shown.ensures.bytes
