use Rattle.std.proofs.Common.{ap}
use Rattle.gq_render.specs.Texts.{name_text}
use Rattle.gq_render.proofs.Sequence.{written}
use Rattle.gq_render.proofs.name.write_name.Goals as goal

pub returns-clause-bytes : goal.returns-clause-bytes
returns-clause-bytes g c = written _ _ _ _ _ _ _ _ _ c.new-batch.ensures c.in_ok-put_name.ensures.bytes c.flush.ensures.bytes (ap name_text c.as_str.ensures.bytes)
