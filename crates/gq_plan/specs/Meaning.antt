-- What a plan means in a plain graph: the assignments that its steps make from nothing, depth first.
use Rattle.std.specs.Prelude.{ℕ, nat_eq, Bool, true, false, Option, Some, None, List, [], ◌∷◌, ◌++◌, map, flat_map, filter, length, slice_get, if◌then◌else◌}
use Rattle.std.specs.List.{range_with_len, list_all, list_any}
use Rattle.gq_base.specs.Plain.{Graph}
use Rattle.gq_base.specs.declared.NodeId.{NodeId}
use Rattle.gq_base.specs.declared.RelId.{RelId}
use Rattle.gq_base.specs.declared.direction.Direction.{Direction}
use Rattle.gq_base.specs.declared.direction.Direction.TheVariants.{Forward, Backward}
use Rattle.gq_expr.specs.Reading as reading
use Rattle.gq_plan.specs.Allowed.{at_same}
use Rattle.gq_plan.specs.Assignments.{Assignment, nodes_of, rels_of, source, target}
use Rattle.gq_plan.specs.Conditions.{passes, differs, no_loop}
use Rattle.gq_plan.specs.Plans.{Plan, Done, Then, Step, Scan, Extend, Close, Join, Keep, Differ, NoLoop, Single, Meet}
use Rattle.gq_plan.specs.declared.typed.Typed.{Typed}
use Rattle.gq_plan.specs.declared.typed.TypedRel.{TypedRel}

-- the variables that are bound, with their nodes and relationships, the latest first
pub record Partial : Type 0 where
  pub nodes : List (ℕ × NodeId)
  pub rels : List (ℕ × RelId)

abbrev pub nothing : Partial
nothing = record { nodes = []; rels = [] }

abbrev pub with_node : ℕ → NodeId → Partial → Partial
with_node v n a = record { nodes = (v, n) ∷ a.nodes; rels = a.rels }

abbrev pub with_rel : ℕ → RelId → Partial → Partial
with_rel x r a = record { nodes = a.nodes; rels = (x, r) ∷ a.rels }

abbrev pub with_all : Partial → Partial → Partial
with_all b a = record { nodes = b.nodes ++ a.nodes; rels = b.rels ++ a.rels }

-- what a variable is bound to
abbrev pub look : {X : Type 0} → List (ℕ × X) → ℕ → Option X
look [] v = None
look (b ∷ bs) v = if nat_eq b.0 v then Some b.1 else look bs v

-- the same of all variables, as expressions read it
abbrev pub row : Partial → reading.Assignment
row a = record { nodes = look a.nodes; rels = look a.rels }

-- the node from which a relationship is followed in a direction, and the node to which it leads
abbrev pub near : Graph → Direction → RelId → Option NodeId
near g Forward r = source g r
near g Backward r = target g r

abbrev pub far : Graph → Direction → RelId → Option NodeId
far g Forward r = target g r
far g Backward r = source g r

abbrev nodes_in : Graph → Option ℕ → List NodeId
nodes_in g None = []
nodes_in g (Some table) = nodes_of g table

abbrev rels_in : Graph → Option TypedRel → List RelId
rels_in g None = []
rels_in g (Some k) = rels_of g k.table

-- the nodes of a node variable's table, in row order
abbrev pub nodes_for : Graph → Typed → ℕ → List NodeId
nodes_for g y v = nodes_in g (slice_get y.nodes v)

-- the relationships of a relationship variable's table, in load order, and those that are met at a node
abbrev pub rels_for : Graph → Typed → ℕ → List RelId
rels_for g y x = rels_in g (slice_get y.rels x)

abbrev pub rels_from : Graph → Typed → ℕ → Direction → Option NodeId → List RelId
rels_from g y x direction n = filter (λ r. at_same n (near g direction r)) (rels_for g y x)

-- a node variable is bound to a node, where there is one
abbrev pub arrive : ℕ → Option NodeId → Partial → List Partial
arrive v None a = []
arrive v (Some n) a = with_node v n a ∷ []

-- two assignments have the same nodes at these variables
abbrev pub agree : List ℕ → Partial → Partial → Bool
agree keys a b = list_all (λ v. at_same (look a.nodes v) (look b.nodes v)) keys

abbrev pub holds : {X : Type 0} → (X → Bool) → Option X → Bool
holds test None = false
holds test (Some x) = test x

-- the assignment, where it is to be kept
abbrev pub keep_if : Bool → Partial → List Partial
keep_if true a = a ∷ []
keep_if false a = []

module _ (g : Graph) (y : Typed) where
  unfoldable mutual
    -- all that a plan makes of an assignment, step by step
    pub mean : Plan → Partial → List Partial
    mean Done a = a ∷ []
    mean (Then s p) a = flat_map (mean p) (step s a)

    -- what one step makes of it
    pub step : Step → Partial → List Partial
    step (Scan v) a = map (λ n. with_node v n a) (nodes_for g y v)
    step (Extend column x from to direction) a =
        flat_map (λ r. arrive to (far g direction r) (with_rel x r a))
        (rels_from g y x direction (look a.nodes from))
    step (Close column x from to direction) a =
        map (λ r. with_rel x r a)
        (filter (λ r. at_same (look a.nodes to) (far g direction r))
        (rels_from g y x direction (look a.nodes from)))
    step (Join side keys) a = map (λ b. with_all b a) (filter (agree keys a) (mean side nothing))
    step (Keep i) a = keep_if (holds (passes g (row a)) (slice_get y.tests i)) a
    step (Differ p) a = keep_if (holds (differs (row a)) (slice_get y.pairs p)) a
    step (NoLoop x) a = keep_if (holds (no_loop (row a)) (slice_get y.rels x)) a
    step (Single x from to direction) a = map (λ r. with_rel x r a) (rels_from g y x direction (look a.nodes from))
    step (Meet x from to direction) a =
        keep_if (list_any (λ r. at_same (look a.nodes to) (far g direction r)) (rels_from g y x direction (look a.nodes from))) a

abbrev pub found : {X : Type 0} → Option X → List X
found None = []
found (Some x) = x ∷ []

-- the nodes and the relationships of an alternative's variables, in the order of the variables
abbrev pub whole : Typed → Partial → Assignment
whole y a = record {
  nodes = flat_map (λ v. found (look a.nodes v)) (range_with_len 0 (length y.nodes));
  rels = flat_map (λ x. found (look a.rels x)) (range_with_len 0 (length y.rels));
}

-- what a plan means: the assignments that it makes from nothing
unfoldable pub meaning : Graph → Typed → Plan → List Assignment
meaning g y p = map (whole y) (mean g y p nothing)
