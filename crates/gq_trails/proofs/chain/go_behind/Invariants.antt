use Rattle.std.proofs.Common.{◌≡◌, length}
use Rattle.gq_trails.specs.steps.Chained.{AreOnWay}
use Rattle.gq_trails.proofs.chain.go_behind.Given as goal

abbrev pub invariant-rows : goal.invariant-rows
invariant-rows l = record {
  way : AreOnWay l.rels l.fn.begun l.fn.trails l.fn.ends.items l.begun l.trails l.ends.items;
  nodes : length l.row.nodes ≡ length l.fn.row.nodes;
  rels : length l.row.rels ≡ length l.fn.row.rels;
}

abbrev pub decreases-rows : goal.decreases-rows
decreases-rows l = length l.trails.owed
