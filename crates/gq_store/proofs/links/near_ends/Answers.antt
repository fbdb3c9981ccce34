use Rattle.gq_base.proofs.ListFacts.{map_next}
use Rattle.gq_base.specs.Rels.{rel_seen}
use Rattle.gq_store.specs.Neighbours.{near_end}
use Rattle.gq_store.proofs.links.near_ends.Goals as goal

pub loop-number-preserved : goal.loop-number-preserved
loop-number-preserved c = cc (map_next (near_end c.args.direction) c.args.rels.now c.loop-number.number (rel_seen c.rel.result) c.rel.ensures, c.in_ok-push.ensures.items, c.loop-number.invariant, c.near_end.ensures)
