-- Nodes by the bits of their rows.
use Rattle.std.specs.Prelude.{◌≡◌, ℕ, ◌/◌, ◌%◌, Bool, List, [], ◌∷◌, ◌++◌, Vec, map, slice_index_or, if◌then◌else◌}
use Rattle.std.specs.List.{list_any}
use Rattle.gq_base.specs.declared.NodeId.{NodeId}
use Rattle.gq_bits.specs.Places.{is_marked}
use Rattle.gq_bits.specs.declared.TheConstants.{VECTOR}
use Rattle.gq_plan.specs.Assignments.{same_node}
use Rattle.gq_exists.specs.declared.rows.Rows.{Rows}

-- whether blocks mark a row; past the last block none is marked
abbrev pub marked_in : List (List Bool) → ℕ → Bool
marked_in blocks row = is_marked (slice_index_or blocks (row / VECTOR) []) (row % VECTOR)

abbrev pub blocks_of : {A : Type 0} → List (Vec (List Bool) A) → List (List (List Bool))
blocks_of tables = map (λ v. v.items) tables

-- whether the blocks of tables mark a node
abbrev pub marked_at : List (List (List Bool)) → NodeId → Bool
marked_at tables n = marked_in (slice_index_or tables n.table []) n.row

-- the nodes with one more, unless it is among them
abbrev pub with_node : List NodeId → NodeId → List NodeId
with_node nodes n = if list_any (same_node n) nodes then nodes else nodes ++ n ∷ []

-- each node as a list of one
abbrev pub singles : List NodeId → List (List NodeId)
singles nodes = map (λ n. n ∷ []) nodes

abbrev pub rows_in : Rows → List (List NodeId)
rows_in r = singles r.nodes.items

-- the nodes are those that are marked
abbrev pub AreRows : Rows → Type 0
AreRows r = (n : NodeId) → marked_at (blocks_of r.tables.items) n ≡ list_any (same_node n) r.nodes.items
