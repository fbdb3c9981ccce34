-- The keys by which the matches of an optional clause are looked up: their nodes at the variables that stood before the clause.
use Rattle.std.specs.Prelude.{ℕ, Bool, false, Option, Some, None, List, [], ◌∷◌, if◌then◌else◌}
use Rattle.gq_base.specs.declared.NodeId.{NodeId}
use Rattle.gq_plan.specs.Keys.{same_nodes}
use Rattle.gq_plan.specs.Soundness.{has_number}

-- the nodes of a match at the variables that are known
abbrev pub shared_nodes : List ℕ → List ℕ → List NodeId → List NodeId
shared_nodes known [] ns = []
shared_nodes known (v ∷ vs) [] = []
shared_nodes known (v ∷ vs) (n ∷ ns) = if has_number known v then n ∷ shared_nodes known vs ns else shared_nodes known vs ns

abbrev pub with_node : Option NodeId → Option (List NodeId) → Option (List NodeId)
with_node None ns = None
with_node (Some n) None = None
with_node (Some n) (Some ns) = Some (n ∷ ns)

-- the nodes of a row at them; none where one of them is null
abbrev pub asked_nodes : List ℕ → List ℕ → (ℕ → Option NodeId) → Option (List NodeId)
asked_nodes known [] row = Some []
asked_nodes known (v ∷ vs) row = if has_number known v then with_node (row v) (asked_nodes known vs row) else asked_nodes known vs row

-- a match has the nodes that are asked for
abbrev pub are_asked : Option (List NodeId) → List NodeId → Bool
are_asked None ns = false
are_asked (Some ks) ns = same_nodes ks ns
