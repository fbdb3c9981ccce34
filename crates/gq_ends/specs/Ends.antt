-- The nodes at which a trail may end.
use Rattle.std.specs.Prelude.{◌≡◌, true, List}
use Rattle.std.specs.List.{AllByRecursion, Contains}
use Rattle.gq_base.specs.Plain.{Graph}
use Rattle.gq_base.specs.declared.NodeId.{NodeId}
use Rattle.gq_law_trails.specs.Trails.{fits_end}
use Rattle.gq_plan.specs.Assignments.{is_node}
use Rattle.gq_plan.specs.declared.TrailPart.{TrailPart}

-- nodes of a graph, among which is each that is as a trail asks of its other end
pub record AreEnds (g : Graph) (p : TrailPart) (ns : List NodeId) : Type 0 where
  pub inside : AllByRecursion (λ n. is_node g n ≡ true) ns
  pub all : (n : NodeId) → is_node g n ≡ true → fits_end g p n ≡ true → Contains ns n

-- the other end of a trail over a graph
pub record OtherEnd : Type 0 where
  pub graph : Graph
  pub part : TrailPart

abbrev pub other_end : Graph → TrailPart → OtherEnd
other_end g p = record { graph = g; part = p }
