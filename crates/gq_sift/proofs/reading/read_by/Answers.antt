use Rattle.std.proofs.Common.{ap}
use Rattle.gq_plan.specs.Known.{Known}
use Rattle.gq_sift.proofs.reading.read_by.Goals as goal

pub loop-node-init : goal.loop-node-init
loop-node-init c = λ x. ap (λ (k : Known). k.rels x) c.none-reads.ensures
