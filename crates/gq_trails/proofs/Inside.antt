-- A walk over a valid graph from one of its nodes ends at one of its nodes.
use Rattle.std.proofs.Common.{◌≡◌, true, Option, Some, List, [], ◌∷◌}
use Rattle.gq_base.specs.Plain.{Graph}
use Rattle.gq_base.specs.Valid.{is_valid}
use Rattle.gq_base.specs.declared.NodeId.{NodeId}
use Rattle.gq_base.specs.declared.RelId.{RelId}
use Rattle.gq_base.specs.declared.direction.Direction.{Direction}
use Rattle.gq_base.specs.declared.direction.Direction.TheVariants.{Forward, Backward}
use Rattle.gq_plan.specs.Assignments.{is_node}
use Rattle.gq_plan.specs.Meaning.{far}
use Rattle.gq_law_reaches.proofs.Lying.{ends_are_nodes}
use Rattle.gq_law_trails.specs.Walks.{end_of}

module _ (g : Graph) (valid : is_valid g ≡ true) where
  pub far_lies : (way : Direction) (r : RelId) (n : NodeId) → far g way r ≡ Some n → is_node g n ≡ true
  far_lies Forward r n e = ends_are_nodes g Backward r n valid e
  far_lies Backward r n e = ends_are_nodes g Forward r n valid e

  pub end_inside : (way : Direction) (at : Option NodeId) → ((n : NodeId) → at ≡ Some n → is_node g n ≡ true) → (l : List RelId) (n : NodeId) → end_of g way at l ≡ Some n → is_node g n ≡ true
  end_inside way at begins [] n e = begins n e
  end_inside way at begins (r ∷ l) n e = end_inside way (far g way r) (far_lies way r) l n e
