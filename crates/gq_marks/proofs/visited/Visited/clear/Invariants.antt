use Rattle.std.proofs.Common.{◌≡◌, ◌+◌, false, length, get_or, drop}
use Rattle.std.specs.Prelude.{count_by}
use Rattle.std.specs.List.{list_any}
use Rattle.gq_base.specs.declared.NodeId.{NodeId as Node}
use Rattle.gq_plan.specs.Assignments.{same_node}
use Rattle.gq_marks.specs.Insides.{is_set, visited_in}
use Rattle.gq_marks.specs.Places.{IsWithin, place_in}
use Rattle.gq_marks.proofs.visited.Visited.clear.Given as goal

abbrev pub invariant-loop-at : goal.invariant-loop-at
invariant-loop-at l = record {
  nodes : l.self-inside.nodes.items ≡ l.initial.self-inside.nodes.items;
  sizes : l.self-inside.sizes.items ≡ l.initial.self-inside.sizes.items;
  starts : l.self-inside.starts.items ≡ l.initial.self-inside.starts.items;
  long : length l.self-inside.marks.items ≡ length l.initial.self-inside.marks.items;
  tell : (n : Node) → IsWithin l.initial.self-inside.sizes.items n
      → get_or l.self-inside.marks.items (place_in l.initial.self-inside.sizes.items n.table n.row) false ≡ list_any (same_node n) (drop l.at (visited_in l.initial.self-inside));
  count : count_by is_set l.self-inside.marks.items + l.at ≡ l.initial.self-inside.count;
}
