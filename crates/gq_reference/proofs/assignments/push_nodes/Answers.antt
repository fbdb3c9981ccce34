use Rattle.gq_reference.proofs.Products.{items_next}
use Rattle.gq_reference.proofs.assignments.push_nodes.Goals as goal

pub loop-row-preserved : goal.loop-row-preserved
loop-row-preserved c = items_next _ _ _ _ _ c.loop-row.invariant c.in_ok-push.ensures.pushed
