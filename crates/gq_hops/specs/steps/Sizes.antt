-- How many rows the tables of a graph have, and nodes that are rows of these.
use Rattle.std.specs.Prelude.{◌≡◌, ℕ, true, List, length, map, if◌then◌else◌}
use Rattle.std.specs.List.{AllByRecursion, range_with_len}
use Rattle.gq_base.specs.Plain.{Graph}
use Rattle.gq_base.specs.Valid.{row_count}
use Rattle.gq_base.specs.declared.NodeId.{NodeId}
use Rattle.gq_plan.specs.Assignments.{is_node}
use Rattle.gq_marks.specs.Places.{IsWithin}
use Rattle.gq_hops.specs.declared.follow.Follow.{Follow}
use Rattle.gq_hops.specs.declared.follow.Followed.{Followed}
use Rattle.gq_hops.specs.steps.Hops.{is_far}

-- each node of the graph to whose table relationships lead is within these tables
abbrev pub AreSizesIn : Graph → List Followed → List ℕ → Type 0
AreSizesIn g es sizes = (n : NodeId) → is_node g n ≡ true → is_far es n.table ≡ true → IsWithin sizes n

abbrev pub AreSizes : Follow → List ℕ → Type 0
AreSizes f sizes = AreSizesIn f.graph.now f.tables.items sizes

abbrev pub AreNodes : Graph → List NodeId → Type 0
AreNodes g ns = AllByRecursion (λ n. is_node g n ≡ true) ns

-- how many rows each table of nodes has to which relationships lead; the others have none
abbrev pub size_in : Graph → List Followed → ℕ → ℕ
size_in g es table = if is_far es table then row_count g.nodes table else 0

abbrev pub sizes_in : Graph → List Followed → List ℕ
sizes_in g es = map (size_in g es) (range_with_len 0 (length g.catalog.nodes))
