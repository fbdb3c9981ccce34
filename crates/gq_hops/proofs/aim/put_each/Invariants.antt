use Rattle.std.proofs.Common.{◌≡◌, ◌≤◌, true, take}
use Rattle.std.specs.List.{AllByRecursion}
use Rattle.gq_base.specs.Plain.{Graph}
use Rattle.gq_marks.specs.Marking.{IsSpread, is_marked}
use Rattle.gq_hops.specs.steps.Aims.{AreInside}
use Rattle.gq_hops.proofs.aim.put_each.Given as goal

abbrev pub invariant-nodes : goal.invariant-nodes
invariant-nodes l = record {
  most : l.place ≤ l.place-end;
  spread : IsSpread 0 l.fn.marks l.marks;
  inside : (g : Graph) → AreInside g l.nodes → AreInside g l.fn.marks.reached → AreInside g l.marks.reached;
  all : AllByRecursion (λ n. is_marked l.marks n ≡ true) (take l.place l.nodes);
}
