-- Which table of nodes the bytes of a file give, or what is refused first (this project's profile).
use Rattle.std.specs.Prelude.{ℕ, ◌+◌, Bool, false, if◌then◌else◌, List, [], ◌∷◌, ◌++◌, length, Ok, Err}
use Rattle.gq_base.specs.Results.{and_then}
use Rattle.std.specs.List.{list_any}
use Rattle.std.specs.Option.{ok_or}
use Rattle.std.specs.declared.option.Option.{Option}
use Rattle.std.specs.declared.option.Option.TheVariants.{Some, None}
use Rattle.std.specs.declared.result.Result.{Result}
use Rattle.gq_base.specs.Values.{Val}
use Rattle.gq_base.specs.declared.catalog.Field.{Field}
use Rattle.gq_base.specs.declared.catalog.Kind.{Kind}
use Rattle.gq_base.specs.declared.cell.Cell.{Cell}
use Rattle.gq_fields.specs.Headers.{header_of}
use Rattle.gq_fields.specs.declared.header.FileKind.TheVariants as file
use Rattle.gq_tables.specs.Cells.{Cells, fitting, read_cell, read_cells, under_header}
use Rattle.gq_tables.specs.Keys.{has_key}
use Rattle.gq_base.specs.Valid.{key_of}
use Rattle.gq_tables.specs.Records.{records_of}
use Rattle.gq_tables.specs.declared.nodes.NodeTableRows.{NodeTableRows}
use Rattle.gq_tables.specs.declared.refusal.TableRefusal.{TableRefusal}
use Rattle.gq_tables.specs.declared.refusal.TableRefusal.TheVariants as refusal

-- the key of the record of this number, in its first column: of its kind, and not null
abbrev pub read_key : ℕ → Kind → List ℕ → Result Cell TableRefusal
read_key number kind text = and_then (read_cell number 1 kind text) (λ cell. ok_or cell (refusal.NullKey number))

-- the row of a record that has a text for each field: its key, and its other cells from the left
abbrev pub node_of : ℕ → List Field → List (List ℕ) → Result Cells TableRefusal
node_of number (key ∷ fields) (text ∷ texts) =
    and_then (read_key number key.kind text) (λ cell.
    and_then (read_cells number 2 fields texts) (λ cells.
    Ok (Some cell ∷ cells)))
node_of number fields texts = Err (refusal.FieldCount number)

-- some row has this key
abbrev pub is_taken : List Cells → Option Val → Bool
is_taken rows None = false
is_taken rows (Some key) = list_any (has_key key) rows

-- one more row, whose key stands in none before it
abbrev pub add_node : ℕ → List Cells → Cells → Result (List Cells) TableRefusal
add_node number rows row = if is_taken rows (key_of row) then Err (refusal.KeyRepeated number) else Ok (rows ++ row ∷ [])

module _ (limit width : ℕ) (fields : List Field) where
  -- the row of a record of this number after so many rows
  abbrev pub read_node : ℕ → ℕ → List (List ℕ) → Result Cells TableRefusal
  read_node number count texts = and_then (fitting limit width number count texts) (node_of number fields)

  -- a record after these rows, and the rows after it
  abbrev pub take_node : ℕ → List Cells → List (List ℕ) → Result (List Cells) TableRefusal
  take_node number rows texts = and_then (read_node number (length rows) texts) (add_node number rows)

  -- the records from this number on, in order, up to the first that is refused
  abbrev pub take_nodes : ℕ → List Cells → List (List (List ℕ)) → Result (List Cells) TableRefusal
  take_nodes number rows [] = Ok rows
  take_nodes number rows (texts ∷ records) = and_then (take_node number rows texts) (λ more. take_nodes (number + 1) more records)

-- the table of these records: the first is the header, and there is a row for each of the others, of which there are at most `limit`
abbrev pub node_table : ℕ → List (List (List ℕ)) → Result NodeTableRows TableRefusal
node_table limit [] = Err refusal.BadHeader
node_table limit (header ∷ records) =
    under_header (header_of file.Nodes header) (λ fields.
    and_then (take_nodes limit (length header) fields 2 [] records) (λ rows.
    Ok (record { fields = fields; rows = rows })))

-- the table of a file with these bytes
abbrev pub node_table_of : ℕ → List ℕ → Result NodeTableRows TableRefusal
node_table_of limit bytes = node_table limit (records_of bytes)
