-- What callers see of a search for the nodes to which a trail leads.
use Rattle.std.specs.Prelude.{ℕ, List}
use Rattle.gq_base.specs.Plain.{Graph}
use Rattle.gq_base.specs.declared.NodeId.{NodeId}
use Rattle.gq_base.specs.declared.direction.Direction.{Direction}

pub record Reaching : Type 0 where
  -- a graph, and a trail's type, way and greatest length
  pub graph : Graph
  pub kind : List ℕ
  pub way : Direction
  pub high : ℕ
  -- the nodes that are still owed, in order
  pub owed : List NodeId
