use Rattle.std.proofs.Common.{length}
use Rattle.gq_marks.specs.Marking.{IsSpread}
use Rattle.gq_hops.specs.steps.Aims.{AreInside, IsUnderWay}
use Rattle.gq_hops.specs.steps.Hops.{IsLevel, left_of}
use Rattle.gq_hops.proofs.aim.spread.Given as goal

abbrev pub invariant-loop-met : goal.invariant-loop-met
invariant-loop-met l = record {
  level : IsLevel l.back l.level;
  spread : IsSpread l.mark l.fn.marks l.marks;
  inside : AreInside l.back.graph.now l.marks.reached;
  under : IsUnderWay l.back l.marks l.fn.node l.level;
}

abbrev pub decreases-loop-met : goal.decreases-loop-met
decreases-loop-met l = length (left_of l.back l.level)
