-- The header of a file, and the records after it: their form, and the cells that their fields give (this project's profile).
use Rattle.std.specs.Prelude.{ℕ, ◌+◌, not, ◌==◌, nat_le, if◌then◌else◌, List, [], ◌∷◌, length, Ok, Err}
use Rattle.gq_base.specs.Results.{and_then}
use Rattle.std.specs.Option.{ok_or}
use Rattle.std.specs.declared.option.Option.{Option}
use Rattle.std.specs.declared.result.Result.{Result}
use Rattle.gq_base.specs.declared.catalog.Field.{Field}
use Rattle.gq_base.specs.declared.catalog.Kind.{Kind}
use Rattle.gq_base.specs.declared.cell.Cell.{Cell}
use Rattle.gq_fields.specs.Fields.{cell_of}
use Rattle.gq_fields.specs.Headers.{Header, named, bad, too_many}
use Rattle.gq_tables.specs.declared.refusal.TableRefusal.{TableRefusal}
use Rattle.gq_tables.specs.declared.refusal.TableRefusal.TheVariants as refusal

-- a row: one optional cell for each field
abbrev pub Cells : Type 0
Cells = List (Option Cell)

-- what the properties of the header give, where it is of its form and has not too many
abbrev pub under_header : {A : Type 0} → Header → (List Field → Result A TableRefusal) → Result A TableRefusal
under_header bad next = Err refusal.BadHeader
under_header too_many next = Err refusal.TooManyProperties
under_header (named fields) next = next fields

-- the texts of a record of this number after so many others: there is room for it, and it has as many fields as the header
abbrev pub fitting : ℕ → ℕ → ℕ → ℕ → List (List ℕ) → Result (List (List ℕ)) TableRefusal
fitting limit width number count texts =
    if nat_le limit count then Err refusal.TooManyRows
    else if not (length texts == width) then Err (refusal.FieldCount number)
    else Ok texts

-- the cell of a field in this column of the record of this number: it is empty, or of its kind
abbrev pub read_cell : ℕ → ℕ → Kind → List ℕ → Result (Option Cell) TableRefusal
read_cell number column kind text = ok_or (cell_of kind text) (refusal.BadField number column)

-- the cells of these fields from the left, of which the first stands in this column
abbrev pub read_cells : ℕ → ℕ → List Field → List (List ℕ) → Result Cells TableRefusal
read_cells number column (field ∷ fields) (text ∷ texts) =
    and_then (read_cell number column field.kind text) (λ cell.
    and_then (read_cells number (column + 1) fields texts) (λ cells.
    Ok (cell ∷ cells)))
read_cells number column fields texts = Ok []
