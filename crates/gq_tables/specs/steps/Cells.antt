-- The header of a file as the first of its records (this project's profile).
use Rattle.std.specs.Prelude.{◌≡◌, ℕ, List, [], ◌∷◌, Ok, Err}
use Rattle.std.specs.declared.result.Result.{Result}
use Rattle.gq_base.specs.declared.catalog.Field.{Field}
use Rattle.gq_fields.specs.Headers.{named, header_of}
use Rattle.gq_fields.specs.declared.header.FileKind.{FileKind}
use Rattle.gq_tables.specs.Cells.{under_header}
use Rattle.gq_tables.specs.declared.refusal.TableRefusal.{TableRefusal}
use Rattle.gq_tables.specs.declared.refusal.TableRefusal.TheVariants as refusal

-- the properties of the first of these records
abbrev pub head_of : FileKind → List (List (List ℕ)) → Result (List Field) TableRefusal
head_of kind [] = Err refusal.BadHeader
head_of kind (header ∷ records) = under_header (header_of kind header) Ok

-- these properties are those of the first of the records, and the others stand behind it
pub record IsHead (kind : FileKind) (fields : List Field) (records rest : List (List (List ℕ))) : Type 0 where
  pub header : List (List ℕ)
  pub is : records ≡ header ∷ rest
  pub names : header_of kind header ≡ named fields
