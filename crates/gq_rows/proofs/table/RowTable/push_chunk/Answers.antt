use Rattle.std.proofs.Common.{subst}
use Rattle.gq_kept.specs.Chunks.{PushesAll}
use Rattle.gq_kept.proofs.Chunking.{all_admitted}
use Rattle.gq_rows.proofs.table.RowTable.push_chunk.Goals as goal

pub returns-clause-pushes : goal.returns-clause-pushes
returns-clause-pushes c =
    let old = c.args.self.now in
    subst (λ os. PushesAll os old c.push_those.new.self c.push_those.result) (all_admitted old.graph old.bound old.alternative c.args.chunk.now) c.push_those.ensures.pushes
