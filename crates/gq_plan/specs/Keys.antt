-- Matches of a path by the nodes that they have at the variables which it shares with a query: these come first among its own.
use Rattle.std.specs.Prelude.{ℕ, Bool, true, false, ◌&&◌, Option, Some, List, [], ◌∷◌, ◌++◌, take, if◌then◌else◌}
use Rattle.std.specs.List.{list_any}
use Rattle.std.specs.Cmp.Lexicographic.{pointwise}
use Rattle.gq_base.specs.declared.NodeId.{NodeId}
use Rattle.gq_expr.specs.Reading as reading
use Rattle.gq_plan.specs.Allowed.{at_same}
use Rattle.gq_plan.specs.Assignments.{Assignment, same_node}

-- ---- rows

-- a row has these nodes at the variables; where it has none, it has none of them
abbrev pub stand_at : List ℕ → (ℕ → Option NodeId) → List NodeId → Bool
stand_at [] row ns = true
stand_at (v ∷ vs) row [] = false
stand_at (v ∷ vs) row (n ∷ ns) = at_same (row v) (Some n) && stand_at vs row ns

-- some match has the nodes that a row has at these variables
abbrev pub has_match : List ℕ → reading.Assignment → List Assignment → Bool
has_match nodes row ms = list_any (λ (t : Assignment). stand_at nodes row.nodes t.nodes) ms

-- ---- keys

-- the nodes of a match at the first variables, so many of them
abbrev pub key_of : ℕ → Assignment → List NodeId
key_of n t = take n t.nodes

abbrev pub same_nodes : List NodeId → List NodeId → Bool
same_nodes ks ns = pointwise same_node ks ns

-- a key is one of these
abbrev pub has_key : List NodeId → List (List NodeId) → Bool
has_key key keys = list_any (same_nodes key) keys

-- each key once, behind those that were seen
abbrev pub different : List (List NodeId) → List (List NodeId) → List (List NodeId)
different seen [] = seen
different seen (k ∷ ks) = different (if has_key k seen then seen else seen ++ k ∷ []) ks
