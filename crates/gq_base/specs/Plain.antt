-- The plain graph: a catalogue and its rows. It knows of no columns, dictionaries or adjacency lists.
use Rattle.std.specs.Prelude.{ℕ, List, [], slice_get}
use Rattle.std.specs.declared.option.Option.{Option}
use Rattle.std.specs.declared.option.Option.TheVariants.{Some, None}
use Rattle.gq_base.specs.Catalogs.{Tables, find_field}
use Rattle.gq_base.specs.Values.{Val, null, flag, int, str}
use Rattle.gq_base.specs.declared.catalog.Field.{Field}
use Rattle.gq_base.specs.declared.cell.Cell.{Cell}
use Rattle.gq_base.specs.declared.cell.Cell.TheVariants as cell
use Rattle.gq_base.specs.declared.cell.PlainRel.{PlainRel}

-- a graph: a catalogue, a list of rows for each node table, a list of relationships for each relationship table;
-- a row has one optional cell for each field of its table
pub record Graph : Type 0 where
  pub catalog : Tables
  pub nodes : List (List (List (Option Cell)))
  pub rels : List (List PlainRel)

-- the value of a cell; a cell that is not there is null
abbrev pub cell_val : Option Cell → Val
cell_val None = null
cell_val (Some (cell.Int z)) = int z
cell_val (Some (cell.Str s)) = str s
cell_val (Some (cell.Flag b)) = flag b

abbrev pub flat : Option (Option Cell) → Option Cell
flat None = None
flat (Some found) = found

-- the cell at a place that a row may lack
abbrev pub cell_at : List (Option Cell) → Option ℕ → Option Cell
cell_at row None = None
cell_at row (Some place) = flat (slice_get row place)

-- a property of a row: the cell of the field of that name, and none where there is no such field
-- (openCypher 9: a property that is missing is null)
abbrev pub property_of : List Field → List ℕ → List (Option Cell) → Option Cell
property_of fields name row = cell_at row (find_field fields name)

abbrev pub rows_of : Option (List (List (Option Cell))) → List (List (Option Cell))
rows_of None = []
rows_of (Some rows) = rows

-- the items of a list, if there is one
abbrev pub all_of : {A : Type 0} → Option (List A) → List A
all_of None = []
all_of (Some items) = items

-- the rows of a node table, and the relationships of a relationship table, in load order
abbrev pub rows_at : Graph → ℕ → List (List (Option Cell))
rows_at g table = all_of (slice_get g.nodes table)

abbrev pub rels_at : Graph → ℕ → List PlainRel
rels_at g table = all_of (slice_get g.rels table)
