-- Assignments of a graph.
use Rattle.std.specs.Prelude.{Bool, ◌&&◌}
use Rattle.std.specs.List.{list_all}
use Rattle.gq_base.specs.Plain.{Graph}
use Rattle.gq_plan.specs.Assignments.{Assignment, is_node, is_rel}

-- the nodes and the relationships of an assignment are of the graph
abbrev pub is_real : Graph → Assignment → Bool
is_real g t = list_all (is_node g) t.nodes && list_all (is_rel g) t.rels
