-- How the cells of a table are kept: a column for each property.
use Rattle.std.specs.Prelude.{ℕ, ◌≡◌, ◌<◌, true, IfSome, List, length, slice_get, slice_index_or}
use Rattle.std.specs.declared.option.Option.{Option}
use Rattle.gq_base.specs.Catalogs.{Tables}
use Rattle.gq_base.specs.Plain.{Graph, rels_at}
use Rattle.gq_base.specs.Valid.{is_valid, row_count}
use Rattle.gq_base.specs.declared.catalog.Field.{Field}
use Rattle.gq_base.specs.declared.cell.Cell.{Cell}
use Rattle.gq_store.specs.Cells.{node_fields, rel_fields}
use Rattle.gq_store.specs.Columns.{Encoded, decoded, node_cells}
use Rattle.gq_store.specs.RelColumns.{rel_cells}
use Rattle.gq_store.specs.steps.Stored.{AreLinked}
use Rattle.gq_store.specs.declared.links.Links.{Links}
use Rattle.gq_store.specs.declared.property.TableCells.{TableCells}

-- a property of a table is kept: its cells, and the kind of its field
pub record IsPropertyOf (fields : List Field) (cells : ℕ → List (Option Cell)) (property : ℕ) (p : Encoded) : Type 0 where
  pub cells_are : decoded p ≡ cells property
  pub kind_is : IfSome (slice_get fields property) (λ field. p.kind ≡ field.kind)

-- the cells of a table's properties are kept, a property after the other, and how many rows the table has
pub record AreTableCells (count : ℕ) (fields : List Field) (cells : ℕ → List (Option Cell)) (kept : TableCells) : Type 0 where
  pub rows_are : kept.rows ≡ count
  pub len : length kept.properties.items ≡ length fields
  pub each : (property : ℕ) (d : Encoded) → property < length fields → IsPropertyOf fields cells property (slice_index_or kept.properties.items property d)

-- those of each node table are, row by row
pub record AreNodesKept (g : Graph) (all : List TableCells) : Type 0 where
  pub len : length all ≡ length g.catalog.nodes
  pub each : (table : ℕ) (d : TableCells) → table < length all
      → AreTableCells (row_count g.nodes table) (node_fields g table) (λ property. node_cells g table property) (slice_index_or all table d)

-- those of each relationship table are, place by place
pub record AreRelsKept (g : Graph) (all : List TableCells) : Type 0 where
  pub len : length all ≡ length g.catalog.rels
  pub each : (rel : ℕ) (d : TableCells) → rel < length all
      → AreTableCells (length (rels_at g rel)) (rel_fields g rel) (λ property. rel_cells g rel property) (slice_index_or all rel d)

-- what is kept of a graph: its catalogue, the cells of its nodes and of its relationships, and the links of these
pub record IsStored (g : Graph) (catalog : Tables) (nodes rels : List TableCells) (links : List Links) : Type 0 where
  pub valid : is_valid g ≡ true
  pub catalog_is : catalog ≡ g.catalog
  pub node_cells : AreNodesKept g nodes
  pub rel_cells : AreRelsKept g rels
  pub linked : AreLinked g links
