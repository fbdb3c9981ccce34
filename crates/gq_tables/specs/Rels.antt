-- Which table of relationships the bytes of a file give, or what is refused first (this project's profile).
use Rattle.std.specs.Prelude.{ℕ, ◌+◌, Bool, ◌==◌, ◌&&◌, ◌||◌, if◌then◌else◌, List, [], ◌∷◌, ◌++◌, length, Ok, Err}
use Rattle.gq_base.specs.Results.{and_then}
use Rattle.std.specs.List.{list_any}
use Rattle.std.specs.Option.{ok_or}
use Rattle.std.specs.declared.option.Option.{Option}
use Rattle.std.specs.declared.option.Option.TheVariants.{Some, None}
use Rattle.std.specs.declared.result.Result.{Result}
use Rattle.gq_base.specs.Plain.{cell_val}
use Rattle.gq_base.specs.Valid.{limits_sources, limits_targets}
use Rattle.gq_base.specs.declared.catalog.Field.{Field}
use Rattle.gq_base.specs.declared.catalog.Kind.{Kind}
use Rattle.gq_base.specs.declared.catalog.Mult.{Mult}
use Rattle.gq_base.specs.declared.cell.Cell.{Cell}
use Rattle.gq_base.specs.declared.cell.PlainRel.{PlainRel}
use Rattle.gq_fields.specs.Headers.{header_of}
use Rattle.gq_fields.specs.declared.header.FileKind.TheVariants as file
use Rattle.gq_tables.specs.Cells.{Cells, fitting, read_cell, read_cells, under_header}
use Rattle.gq_tables.specs.Keys.{find_key}
use Rattle.gq_tables.specs.Records.{records_of}
use Rattle.gq_tables.specs.declared.rels.RelTableRows.{RelTableRows}
use Rattle.gq_tables.specs.declared.refusal.TableRefusal.{TableRefusal}
use Rattle.gq_tables.specs.declared.refusal.TableRefusal.TheVariants as refusal

-- the node table at one end: the kind of its keys, and its rows
pub record KeyTable : Type 0 where
  pub kind : Kind
  pub rows : List Cells

-- the row whose key a cell is
abbrev pub find_end : List Cells → Option Cell → Option ℕ
find_end rows None = None
find_end rows (Some cell) = find_key rows (cell_val (Some cell))

-- the end in this column of the record of this number: of the kind of the keys, and a key of its table
abbrev pub read_end : ℕ → ℕ → KeyTable → List ℕ → Result ℕ TableRefusal
read_end number column table text =
    and_then (read_cell number column table.kind text) (λ cell. ok_or (find_end table.rows cell) (refusal.NoSuchNode number column))

-- the relationship of a record that has two ends and a text for each field: its source, its target, and its cells from the left
abbrev pub rel_of : ℕ → KeyTable → KeyTable → List Field → List (List ℕ) → Result PlainRel TableRefusal
rel_of number sources targets fields (from ∷ to ∷ texts) =
    and_then (read_end number 1 sources from) (λ source.
    and_then (read_end number 2 targets to) (λ target.
    and_then (read_cells number 3 fields texts) (λ cells.
    Ok (record { source = source; target = target; cells = cells }))))
rel_of number sources targets fields texts = Err (refusal.FieldCount number)

-- some relationship has this source
abbrev pub has_source : List PlainRel → ℕ → Bool
has_source rels row = list_any (λ r. r.source == row) rels

-- some relationship has this target
abbrev pub has_target : List PlainRel → ℕ → Bool
has_target rels row = list_any (λ r. r.target == row) rels

-- the multiplicity forbids a relationship after those before it
abbrev pub is_forbidden : Mult → List PlainRel → PlainRel → Bool
is_forbidden mult rels rel = (limits_sources mult && has_source rels rel.source) || (limits_targets mult && has_target rels rel.target)

-- one more relationship, which the multiplicity allows
abbrev pub add_rel : Mult → ℕ → List PlainRel → PlainRel → Result (List PlainRel) TableRefusal
add_rel mult number rels rel = if is_forbidden mult rels rel then Err (refusal.NotSingle number) else Ok (rels ++ rel ∷ [])

module _ (sources targets : KeyTable) (limit width : ℕ) (fields : List Field) where
  -- the relationship of a record of this number after so many relationships
  abbrev pub read_rel : ℕ → ℕ → List (List ℕ) → Result PlainRel TableRefusal
  read_rel number count texts = and_then (fitting limit width number count texts) (rel_of number sources targets fields)

  module _ (mult : Mult) where
    -- a record after these relationships, and the relationships after it
    abbrev pub take_rel : ℕ → List PlainRel → List (List ℕ) → Result (List PlainRel) TableRefusal
    take_rel number rels texts = and_then (read_rel number (length rels) texts) (add_rel mult number rels)

    -- the records from this number on, in order, up to the first that is refused
    abbrev pub take_rels : ℕ → List PlainRel → List (List (List ℕ)) → Result (List PlainRel) TableRefusal
    take_rels number rels [] = Ok rels
    take_rels number rels (texts ∷ records) = and_then (take_rel number rels texts) (λ more. take_rels (number + 1) more records)

-- the table of these records: the first is the header, and there is a relationship for each of the others, of which there are at most `limit`
abbrev pub rel_table : KeyTable → KeyTable → Mult → ℕ → List (List (List ℕ)) → Result RelTableRows TableRefusal
rel_table sources targets mult limit [] = Err refusal.BadHeader
rel_table sources targets mult limit (header ∷ records) =
    under_header (header_of file.Rels header) (λ fields.
    and_then (take_rels sources targets limit (length header) fields mult 2 [] records) (λ rels.
    Ok (record { fields = fields; rels = rels })))

-- the table of a file with these bytes, from nodes of one table to nodes of one table
abbrev pub rel_table_of : KeyTable → KeyTable → Mult → ℕ → List ℕ → Result RelTableRows TableRefusal
rel_table_of sources targets mult limit bytes = rel_table sources targets mult limit (records_of bytes)
