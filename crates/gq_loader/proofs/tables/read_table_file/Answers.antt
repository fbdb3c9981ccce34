use Rattle.std.proofs.Common.{arith}
use Rattle.gq_loader.proofs.Effecting.{reads_less}
use Rattle.gq_loader.proofs.tables.read_table_file.Goals as goal

pub returns-clause-reads : goal.returns-clause-reads
returns-clause-reads g c =
    reads_less _ c.args.limits.now.file_bytes _ _ _ (omega (arith, c.min-most.ensures)) c.read_file.ensures.reads
