-- Bounds that are found backward from the node where walks may end.
use Rattle.std.specs.Prelude.{◌≡◌, ℕ, suc, ◌<◌, ◌≤◌, true, Some, List, ◌++◌, slice_get}
use Rattle.std.specs.List.{AllByRecursion}
use Rattle.gq_base.specs.Plain.{Graph}
use Rattle.gq_base.specs.declared.NodeId.{NodeId}
use Rattle.gq_base.specs.declared.RelId.{RelId}
use Rattle.gq_base.specs.declared.direction.Direction.{Direction}
use Rattle.gq_law_trails.specs.Walks.{is_of_type}
use Rattle.gq_marks.specs.Marking.{Marking, is_marked, mark_at}
use Rattle.gq_plan.specs.Assignments.{all_rels, is_node}
use Rattle.gq_plan.specs.Meaning.{far, near}
use Rattle.gq_hops.specs.declared.follow.Follow.{Follow}
use Rattle.gq_hops.specs.declared.follow.Frame.{Frame}
use Rattle.gq_hops.specs.steps.Hops.{left_at, left_of}

-- where a relationship leads, there is a mark
abbrev pub IsHit : Graph → Direction → Marking → RelId → Type 0
IsHit g way m r = (n : NodeId) → far g way r ≡ Some n → is_marked m n ≡ true

-- so of all relationships of the type at a node
abbrev pub AreHit : Follow → Marking → NodeId → Type 0
AreHit f m n = AllByRecursion (IsHit f.graph.now f.way m) (left_at f.graph.now f.kind.now f.way n 0 0)

-- of the relationships at a node, some are done, and where they lead there are marks
pub record IsUnderWay (f : Follow) (m : Marking) (n : NodeId) (l : Frame) : Type 0 where
  pub done : List RelId
  pub all : left_at f.graph.now f.kind.now f.way n 0 0 ≡ done ++ left_of f l
  pub hit : AllByRecursion (IsHit f.graph.now f.way m) done

-- the nodes are of the graph
abbrev pub AreInside : Graph → List NodeId → Type 0
AreInside g ns = AllByRecursion (λ n. is_node g n ≡ true) ns

-- from where a relationship of the type leads to a node, there is a mark, which is at most one more
abbrev pub IsNearer : Graph → List ℕ → Direction → Marking → NodeId → RelId → Type 0
IsNearer g kind way m n r =
    (p : NodeId) → is_of_type g kind r ≡ true → near g way r ≡ Some p → far g way r ≡ Some n → (is_marked m p ≡ true) × (mark_at m.sheets p ≤ suc (mark_at m.sheets n))

abbrev pub IsSettled : Graph → List ℕ → Direction → Marking → NodeId → Type 0
IsSettled g kind way m n = (k : ℕ) (r : RelId) → slice_get (all_rels g) k ≡ Some r → IsNearer g kind way m n r

-- what is known of the nodes that were reached: those before a place are settled, and those from it on have no less than a level
pub record IsAimed (g : Graph) (kind : List ℕ) (way : Direction) (level from : ℕ) (m : Marking) : Type 0 where
  pub few : (n : NodeId) → is_marked m n ≡ true → mark_at m.sheets n ≤ suc level
  pub marked : (i : ℕ) (n : NodeId) → slice_get m.reached i ≡ Some n → is_marked m n ≡ true
  pub settled : (i : ℕ) (n : NodeId) → i < from → slice_get m.reached i ≡ Some n → IsSettled g kind way m n
  pub ahead : (i : ℕ) (n : NodeId) → from ≤ i → slice_get m.reached i ≡ Some n → level ≤ mark_at m.sheets n
