use Rattle.std.proofs.Common.{◌≤◌, ◌-◌, suc}
use Rattle.gq_base.specs.Directions.{opposite}
use Rattle.gq_marks.specs.Marking.{IsSpread}
use Rattle.gq_hops.specs.steps.Aims.{AreInside, IsAimed}
use Rattle.gq_hops.proofs.aim.go_round.Given as goal

abbrev pub invariant-nodes : goal.invariant-nodes
invariant-nodes l = record {
  most : l.at ≤ l.stop;
  spread : IsSpread (suc l.level) l.fn.marks l.marks;
  inside : AreInside l.back.graph.now l.marks.reached;
  aimed : IsAimed l.back.graph.now l.back.kind.now (opposite l.back.way) l.level l.at l.marks;
}

abbrev pub decreases-nodes : goal.decreases-nodes
decreases-nodes l = l.stop - l.at
