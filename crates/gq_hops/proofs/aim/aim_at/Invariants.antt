use Rattle.std.proofs.Common.{◌≡◌, ◌≤◌, suc, length}
use Rattle.std.specs.List.{AllByRecursion}
use Rattle.gq_base.specs.Directions.{opposite}
use Rattle.gq_marks.specs.Marking.{mark_at}
use Rattle.gq_hops.specs.steps.Aims.{AreInside, IsAimed}
use Rattle.gq_hops.proofs.aim.aim_at.Given as goal

abbrev pub invariant-rounds : goal.invariant-rounds
invariant-rounds l = record {
  most : l.level ≤ l.rounds;
  low : l.from ≤ length l.marks.reached;
  rest : l.marks.rest ≡ suc l.level;
  inside : AreInside l.back.graph.now l.marks.reached;
  aimed : IsAimed l.back.graph.now l.back.kind.now (opposite l.back.way) l.level l.from l.marks;
  ends : AllByRecursion (λ n. mark_at l.marks.sheets n ≡ 0) l.fn.ends;
}
