-- What a plain graph tells of its nodes and relationships, and what a row gives the variables.
use Rattle.std.specs.Prelude.{ℕ, List, slice_get}
use Rattle.std.specs.declared.option.Option.{Option}
use Rattle.std.specs.declared.option.Option.TheVariants.{Some, None}
use Rattle.gq_base.specs.Plain.{Graph, cell_val, property_of}
use Rattle.gq_base.specs.Values.{Val, null, str, node, rel}
use Rattle.gq_base.specs.declared.Cell.{Cell}
use Rattle.gq_base.specs.declared.NodeId.{NodeId}
use Rattle.gq_base.specs.declared.NodeTable.{NodeTable}
use Rattle.gq_base.specs.declared.PlainRel.{PlainRel}
use Rattle.gq_base.specs.declared.RelId.{RelId}
use Rattle.gq_base.specs.declared.RelTable.{RelTable}

-- a row: the node of each node variable and the relationship of each relationship variable, where it has one
pub record Assignment : Type 0 where
  pub nodes : ℕ → Option NodeId
  pub rels : ℕ → Option RelId

-- the value of a variable, null where the row has none
abbrev pub node_val : Option NodeId → Val
node_val None = null
node_val (Some n) = node n

abbrev pub rel_val : Option RelId → Val
rel_val None = null
rel_val (Some r) = rel r

-- an item of an item of a list of lists, where both are there
abbrev pub get_in : {A : Type 0} → Option (List A) → ℕ → Option A
get_in None row = None
get_in (Some rows) row = slice_get rows row

abbrev pub node_cell : List ℕ → Option NodeTable → Option (List (Option Cell)) → Option Cell
node_cell name (Some table) (Some cells) = property_of table.fields name cells
node_cell name table cells = None

abbrev pub rel_cell : List ℕ → Option RelTable → Option PlainRel → Option Cell
rel_cell name (Some table) (Some found) = property_of table.fields name found.cells
rel_cell name table found = None

-- a property of a node, null where it is missing (openCypher 9)
abbrev pub node_property : Graph → NodeId → List ℕ → Val
node_property g n name = cell_val (node_cell name (slice_get g.catalog.nodes n.table) (get_in (slice_get g.nodes n.table) n.row))

-- a property of a relationship, null where it is missing (openCypher 9)
abbrev pub rel_property : Graph → RelId → List ℕ → Val
rel_property g r name = cell_val (rel_cell name (slice_get g.catalog.rels r.table) (get_in (slice_get g.rels r.table) r.row))

abbrev pub name_of : Option RelTable → Val
name_of None = null
name_of (Some table) = str table.name

-- the name of a relationship's type; a relationship of the graph has one
abbrev pub type_name : Graph → RelId → Val
type_name g r = name_of (slice_get g.catalog.rels r.table)

-- a property of a variable's node or relationship, null where the row has none
abbrev pub property_at : {I : Type 0} → (I → List ℕ → Val) → Option I → List ℕ → Val
property_at reads None name = null
property_at reads (Some found) name = reads found name
