-- Which plain graphs are valid: their rows fit their tables, keys tell nodes apart, ends exist, and multiplicities and limits are kept
-- (this project's profile).
use Rattle.std.specs.Prelude.{ℕ, ◌^◌, Bool, true, false, not, nat_lt, nat_le, ◌==◌, ◌&&◌, ◌||◌, List, [], ◌∷◌, length, map, slice_get}
use Rattle.std.specs.declared.option.Option.{Option}
use Rattle.std.specs.declared.option.Option.TheVariants.{Some, None}
use Rattle.std.specs.List.{list_all}
use Rattle.std.specs.Ordering.{is_eq}
use Rattle.std.specs.Str.{bytes_eq}
use Rattle.gq_base.specs.Lists.{all_distinct, all_zip, each}
use Rattle.gq_base.specs.Plain.{Graph, cell_val, rows_of}
use Rattle.gq_base.specs.Values.{Val, order_vals}
use Rattle.gq_base.specs.declared.catalog.Field.{Field}
use Rattle.gq_base.specs.declared.catalog.Kind.{Kind}
use Rattle.gq_base.specs.declared.catalog.Kind.TheVariants as kind
use Rattle.gq_base.specs.declared.catalog.Mult.{Mult}
use Rattle.gq_base.specs.declared.catalog.Mult.TheVariants.{ManyOne, OneMany, OneOne}
use Rattle.gq_base.specs.declared.catalog.NodeTable.{NodeTable}
use Rattle.gq_base.specs.declared.catalog.RelTable.{RelTable}
use Rattle.gq_base.specs.declared.cell.Cell.{Cell}
use Rattle.gq_base.specs.declared.cell.Cell.TheVariants as cell
use Rattle.gq_base.specs.declared.cell.PlainRel.{PlainRel}
use Rattle.gq_base.specs.declared.direction.Direction.{Direction}
use Rattle.gq_base.specs.declared.direction.Direction.TheVariants.{Forward, Backward}

-- ---- limits

-- tables of nodes, and tables of relationships
abbrev pub most_tables : ℕ
most_tables = 64

-- properties of a table
abbrev pub most_properties : ℕ
most_properties = 64

-- nodes of a table
abbrev pub most_nodes : ℕ
most_nodes = 2 ^ 24

-- relationships of a table
abbrev pub most_rels : ℕ
most_rels = 2 ^ 25

-- ---- rows

-- a cell is of a kind; null is of every kind
abbrev pub is_of_kind : Kind → Option Cell → Bool
is_of_kind k None = true
is_of_kind kind.Int (Some (cell.Int z)) = true
is_of_kind kind.Str (Some (cell.Str s)) = true
is_of_kind kind.Flag (Some (cell.Flag b)) = true
is_of_kind k c = false

abbrev pub is_cell_of : Field → Option Cell → Bool
is_cell_of field c = is_of_kind field.kind c

-- a row fits fields: one cell for each, of its kind
abbrev pub fits_fields : List Field → List (Option Cell) → Bool
fits_fields fields row = all_zip is_cell_of fields row

-- the key of a node's row: its first cell, which is not null
abbrev pub key_of : List (Option Cell) → Option Val
key_of [] = None
key_of (None ∷ cells) = None
key_of (Some c ∷ cells) = Some (cell_val (Some c))

-- two keys are one value, by the order of values
abbrev pub same_key : Val → Val → Bool
same_key a b = is_eq (order_vals a b)

abbrev pub are_unique : Option (List Val) → Bool
are_unique None = false
are_unique (Some keys) = all_distinct same_key keys

-- each row has a key, and no two rows have the same one
abbrev pub has_keys : List (List (Option Cell)) → Bool
has_keys rows = are_unique (each key_of rows)

-- ---- tables

-- two properties have one name, byte for byte
abbrev pub same_name : Field → Field → Bool
same_name f g = bytes_eq f.name g.name

-- the properties of a table: not too many, and no two of one name
abbrev pub are_fields : List Field → Bool
are_fields fields = nat_le (length fields) most_properties && all_distinct same_name fields

-- the rows of a node table
abbrev pub are_nodes : NodeTable → List (List (Option Cell)) → Bool
are_nodes table rows = are_fields table.fields && nat_le (length rows) most_nodes && list_all (fits_fields table.fields) rows && has_keys rows

-- a source has at most one relationship
abbrev pub limits_sources : Mult → Bool
limits_sources ManyOne = true
limits_sources OneOne = true
limits_sources mult = false

-- a target has at most one relationship
abbrev pub limits_targets : Mult → Bool
limits_targets OneMany = true
limits_targets OneOne = true
limits_targets mult = false

-- a vertex has at most one relationship that is followed from it in this direction
abbrev pub is_single : Mult → Direction → Bool
is_single mult Forward = limits_sources mult
is_single mult Backward = limits_targets mult

-- no row stands twice, where that is forbidden
abbrev pub once_if : Bool → List ℕ → Bool
once_if forbidden rows = not forbidden || all_distinct (λ a b. a == b) rows

-- the relationships are no more than the multiplicity allows each vertex
abbrev pub keeps_mult : Mult → List PlainRel → Bool
keeps_mult mult rels = once_if (limits_sources mult) (map (λ r. r.source) rels) && once_if (limits_targets mult) (map (λ r. r.target) rels)

-- a relationship between nodes of which there are so many, with cells that fit
abbrev pub is_rel : List Field → ℕ → ℕ → PlainRel → Bool
is_rel fields sources targets rel = nat_lt rel.source sources && nat_lt rel.target targets && fits_fields fields rel.cells

-- how many rows a node table has
abbrev pub row_count : List (List (List (Option Cell))) → ℕ → ℕ
row_count nodes table = length (rows_of (slice_get nodes table))

-- a relationship table whose ends are node tables
abbrev pub has_ends : ℕ → RelTable → Bool
has_ends tables table = nat_lt table.from tables && nat_lt table.to tables

-- the relationships of a relationship table, over the rows of the node tables
abbrev pub are_rels : List (List (List (Option Cell))) → RelTable → List PlainRel → Bool
are_rels nodes table rels = has_ends (length nodes) table && are_fields table.fields && nat_le (length rels) most_rels
    && list_all (is_rel table.fields (row_count nodes table.from) (row_count nodes table.to)) rels && keeps_mult table.mult rels

-- ---- graphs

-- not too many tables, and for each one its rows
abbrev pub is_valid : Graph → Bool
is_valid graph = nat_le (length graph.catalog.nodes) most_tables && nat_le (length graph.catalog.rels) most_tables
    && all_zip are_nodes graph.catalog.nodes graph.nodes && all_zip (are_rels graph.nodes) graph.catalog.rels graph.rels
