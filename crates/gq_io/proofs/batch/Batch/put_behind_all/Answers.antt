use Rattle.gq_io.proofs.Waiting.{flushed-writes}
use Rattle.gq_io.proofs.batch.Batch.put_behind_all.Goals as goal

pub returns-then-piece-gt-ROOM-clause-bytes : goal.returns-then-piece-gt-ROOM-clause-bytes
returns-then-piece-gt-ROOM-clause-bytes g c =
    rw c.in_ok-flush.ensures.bytes.1 (flushed-writes _ _ _ _ _ c.write_all.result c.in_ok-flush.ensures.bytes.0 c.write_all.ensures.bytes)
