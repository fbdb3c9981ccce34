use Rattle.std.proofs.Common.{◌+◌, arith}
use Rattle.gq_sample.specs.Sample.{person}
use Rattle.gq_sample.proofs.Numbers.{mapped}
use Rattle.gq_sample.proofs.nodes.persons.Goals as goal

pub loop-row-preserved : goal.loop-row-preserved
loop-row-preserved c = mapped person 1 c.loop-row.row (c.loop-row.row + 1) _ _ _ (omega arith) c.loop-row.invariant c.in_ok-person.ensures c.in_ok-push.ensures.pushed
