use Rattle.std.proofs.Common.{arith}
use Rattle.gq_sample.specs.Sample.{city}
use Rattle.gq_sample.proofs.Numbers.{mapped}
use Rattle.gq_sample.proofs.nodes.cities.Goals as goal

pub loop-row-preserved : goal.loop-row-preserved
loop-row-preserved c = mapped city 0 c.loop-row.row c.loop-row.row _ _ _ (omega arith) c.loop-row.invariant c.in_ok-city.ensures c.in_ok-push.ensures.pushed
