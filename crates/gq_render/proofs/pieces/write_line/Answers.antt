use Rattle.std.proofs.Common.{refl}
use Rattle.gq_render.proofs.Sequence.{written}
use Rattle.gq_render.proofs.pieces.write_line.Goals as goal

pub returns-clause-bytes : goal.returns-clause-bytes
returns-clause-bytes g c = written _ _ _ _ _ _ _ _ _ c.new-batch.ensures c.in_ok-put_line.ensures.bytes c.flush.ensures.bytes refl
