-- What the fields of `Visited` stand for, and what is true of them.
use Rattle.std.specs.Prelude.{◌≡◌, ◌≤◌, ◌^◌, Bool, true, false, List, take, length, get_or, count_by}
use Rattle.std.specs.List.{AllByRecursion, list_any}
use Rattle.gq_base.specs.Lists.{all_distinct}
use Rattle.gq_base.specs.declared.NodeId.{NodeId}
use Rattle.gq_plan.specs.Assignments.{same_node}
use Rattle.gq_marks.specs.Visiting.{Visiting}
use Rattle.gq_marks.specs.Places.{IsWithin, place_in, starts_from, total_of}
use Rattle.gq_marks.specs.declared.visited.Visited.TheInside.{Inside}

abbrev pub visited_in : Inside → List NodeId
visited_in m = take m.count m.nodes.items

abbrev pub visiting_of : Inside → Visiting
visiting_of m = record { sizes = m.sizes.items; nodes = visited_in m }

abbrev pub is_set : Bool → Bool
is_set b = b

-- the marks tell which nodes were met, these are different, and so many marks are set
pub record IsVisiting (m : Inside) : Type 0 where
  pub starts : m.starts.items ≡ starts_from 0 m.sizes.items
  pub marks : length m.marks.items ≡ total_of m.sizes.items
  pub room : length m.nodes.items ≡ total_of m.sizes.items
  pub few : total_of m.sizes.items ≤ 2 ^ 32
  pub count : m.count ≡ count_by is_set m.marks.items
  pub tell : (n : NodeId) → IsWithin m.sizes.items n → get_or m.marks.items (place_in m.sizes.items n.table n.row) false ≡ list_any (same_node n) (visited_in m)
  pub distinct : all_distinct same_node (visited_in m) ≡ true
  pub within : AllByRecursion (IsWithin m.sizes.items) (visited_in m)
