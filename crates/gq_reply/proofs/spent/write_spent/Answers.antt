use Rattle.std.proofs.Common.{ap}
use Rattle.gq_render.proofs.Sequence.{written}
use Rattle.gq_reply.specs.ReplyTexts.{spent_text}
use Rattle.gq_reply.proofs.spent.write_spent.Goals as goal

pub returns-clause-bytes : goal.returns-clause-bytes
returns-clause-bytes g c = written _ _ _ _ _ _ _ _ _ c.new-batch.ensures c.in_ok-put_all.ensures.bytes c.flush.ensures.bytes (ap (spent_text 1) c.as_slice.ensures)
