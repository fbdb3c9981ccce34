use Rattle.std.proofs.Common.{◌≡◌, ◌-◌, drop, length}
use Rattle.gq_trails.specs.steps.Chained.{AreUnderWayFrom, barred_behind}
use Rattle.gq_trails.specs.steps.Walked.{walked_of}
use Rattle.gq_trails.proofs.Placed.{ends_left}
use Rattle.gq_trails.proofs.chain.+go_on.Given as goal

abbrev pub decreases-go_on : goal.decreases-go_on
decreases-go_on l = length l.ends.now.items - l.at

abbrev pub invariant-rows : goal.invariant-rows
invariant-rows l = record {
  under : AreUnderWayFrom l.walked.graph (barred_behind l.rels (walked_of l.walked)) l.walked.nodes l.walked.rels l.at l.fn.ends.items l.ends.items;
  nodes : length l.row.nodes ≡ length l.fn.row.nodes;
  rels : length l.row.rels ≡ length l.fn.row.rels;
}

abbrev pub decreases-rows : goal.decreases-rows
decreases-rows l = ends_left (drop l.at l.ends.items)
