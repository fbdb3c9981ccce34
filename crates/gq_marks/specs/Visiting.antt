-- What callers see of the nodes that a search has met.
use Rattle.std.specs.Prelude.{ℕ, List, [], ◌∷◌, ◌++◌, if◌then◌else◌}
use Rattle.std.specs.List.{list_any}
use Rattle.gq_base.specs.declared.NodeId.{NodeId}
use Rattle.gq_plan.specs.Assignments.{same_node}

pub record Visiting : Type 0 where
  -- how many rows each table of nodes has
  pub sizes : List ℕ
  pub nodes : List NodeId

-- a node that was not there before stands behind the others
abbrev pub with_node : List NodeId → NodeId → List NodeId
with_node ns n = if list_any (same_node n) ns then ns else ns ++ n ∷ []

abbrev pub with_visit : Visiting → NodeId → Visiting
with_visit v n = record v { nodes = with_node v.nodes n }
