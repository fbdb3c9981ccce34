-- The assignments of a plain graph: all choices of nodes and relationships for a number of variables.
use Rattle.std.specs.Prelude.{ℕ, zero, suc, nat_eq, Bool, ◌&&◌, Option, Some, None, List, [], ◌∷◌, map, flat_map, length, slice_get, nat_lt}
use Rattle.std.specs.List.{range_with_len}
use Rattle.gq_base.specs.Plain.{Graph, rels_at, rows_at}
use Rattle.gq_base.specs.declared.NodeId.{NodeId}
use Rattle.gq_base.specs.declared.PlainRel.{PlainRel}
use Rattle.gq_base.specs.declared.RelId.{RelId}
use Rattle.gq_base.specs.declared.RelTable.{RelTable}
use Rattle.gq_expr.specs.Reading as reading

-- one node for each node variable and one relationship for each relationship variable, in the order of the variables
pub record Assignment : Type 0 where
  pub nodes : List NodeId
  pub rels : List RelId

-- the same, as expressions read it
abbrev pub row_of : Assignment → reading.Assignment
row_of t = record { nodes = slice_get t.nodes; rels = slice_get t.rels }

-- the nodes of a table, in row order, and those of all tables
unfoldable pub nodes_of : Graph → ℕ → List NodeId
nodes_of g table = map (λ row. record { table = table; row = row }) (range_with_len 0 (length (rows_at g table)))

unfoldable pub all_nodes : Graph → List NodeId
all_nodes g = flat_map (nodes_of g) (range_with_len 0 (length g.nodes))

-- the relationships of a table, in load order, and those of all tables
unfoldable pub rels_of : Graph → ℕ → List RelId
rels_of g table = map (λ row. record { table = table; row = row }) (range_with_len 0 (length (rels_at g table)))

unfoldable pub all_rels : Graph → List RelId
all_rels g = flat_map (rels_of g) (range_with_len 0 (length g.rels))

-- the lists of n items, in lexicographic order
unfoldable pub tuples : {X : Type 0} → ℕ → List X → List (List X)
tuples zero xs = [] ∷ []
tuples (suc n) xs = flat_map (λ x. map (λ l. x ∷ l) (tuples n xs)) xs

-- all assignments of so many node variables and so many relationship variables
unfoldable pub assignments : ℕ → ℕ → Graph → List Assignment
assignments n m g = flat_map (λ ns. map (λ rs. record { nodes = ns; rels = rs }) (tuples m (all_rels g))) (tuples n (all_nodes g))

abbrev pub same_node : NodeId → NodeId → Bool
same_node m n = nat_eq m.table n.table && nat_eq m.row n.row

abbrev pub same_rel : RelId → RelId → Bool
same_rel q r = nat_eq q.table r.table && nat_eq q.row r.row

-- the node or the relationship is one of the graph
abbrev pub is_node : Graph → NodeId → Bool
is_node g n = nat_lt n.row (length (rows_at g n.table))

abbrev pub is_rel : Graph → RelId → Bool
is_rel g r = nat_lt r.row (length (rels_at g r.table))

abbrev pub source_in : Option RelTable → Option PlainRel → Option NodeId
source_in (Some table) (Some found) = Some (record { table = table.from; row = found.source })
source_in table found = None

abbrev pub target_in : Option RelTable → Option PlainRel → Option NodeId
target_in (Some table) (Some found) = Some (record { table = table.to; row = found.target })
target_in table found = None

-- the nodes that a relationship leads from and to; a relationship of the graph has both
unfoldable pub source : Graph → RelId → Option NodeId
source g r = source_in (slice_get g.catalog.rels r.table) (slice_get (rels_at g r.table) r.row)

unfoldable pub target : Graph → RelId → Option NodeId
target g r = target_in (slice_get g.catalog.rels r.table) (slice_get (rels_at g r.table) r.row)
