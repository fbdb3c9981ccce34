-- Which properties the header of a file names (this project's profile).
use Rattle.std.specs.Prelude.{◌≡◌, ℕ, Bool, true, false, ◌&&◌, nat_le, if◌then◌else◌, List, [], ◌∷◌, length, codes, Result, Ok, Err}
use Rattle.std.specs.declared.option.Option.{Option}
use Rattle.std.specs.declared.option.Option.TheVariants.{Some, None}
use Rattle.std.specs.Option.{option_and_then}
use Rattle.std.specs.Str.{bytes_eq}
use Rattle.gq_base.specs.declared.catalog.Field.{Field}
use Rattle.gq_base.specs.declared.catalog.Kind.{Kind}
use Rattle.gq_base.specs.declared.catalog.Kind.TheVariants as kind
use Rattle.gq_fields.specs.Fields.{field_of}
use Rattle.gq_base.specs.Lists.{all_distinct, each}
use Rattle.gq_base.specs.Valid.{most_properties, same_name}
use Rattle.gq_fields.specs.declared.header.FileKind.{FileKind}
use Rattle.gq_fields.specs.declared.header.FileKind.TheVariants.{Nodes, Rels}
use Rattle.gq_fields.specs.declared.header.HeaderRefusal.{HeaderRefusal}
use Rattle.gq_fields.specs.declared.header.HeaderRefusal.TheVariants as refusal

-- the properties, where no two of them have one name
abbrev pub distinct_fields : Option (List Field) → Option (List Field)
distinct_fields None = None
distinct_fields (Some fields) = if all_distinct same_name fields then Some fields else None

-- the properties: each field is `name:kind`, and no two have one name
abbrev pub properties_of : List (List ℕ) → Option (List Field)
properties_of texts = distinct_fields (each field_of texts)

-- keys are integers or texts
abbrev pub is_key_kind : Kind → Bool
is_key_kind kind.Int = true
is_key_kind kind.Str = true
is_key_kind kind.Flag = false

-- there is a first property, the key, and it is of such a kind
abbrev pub has_key : List Field → Bool
has_key [] = false
has_key (key ∷ others) = is_key_kind key.kind

-- the properties, where they have a key
abbrev pub with_key : Option (List Field) → Option (List Field)
with_key None = None
with_key (Some fields) = if has_key fields then Some fields else None

-- the names of the two ends of a relationship
abbrev pub are_ends : List ℕ → List ℕ → Bool
are_ends from to = bytes_eq from (codes "from") && bytes_eq to (codes "to")

-- what stands behind `from` and `to`
abbrev pub after_ends : List (List ℕ) → Option (List (List ℕ))
after_ends [] = None
after_ends (from ∷ []) = None
after_ends (from ∷ to ∷ texts) = if are_ends from to then Some texts else None

-- the properties, where the record is of the form of a header: of nodes, a key and other properties;
-- of relationships, `from`, `to` and properties
abbrev pub form_of : FileKind → List (List ℕ) → Option (List Field)
form_of Nodes texts = with_key (properties_of texts)
form_of Rels texts = option_and_then properties_of (after_ends texts)

-- what a header says: the properties of a table, or why there are none
pub data Header : Type 0 where
  named : List Field → Header
  bad : Header
  too_many : Header

-- properties within the limit
abbrev pub within_limit : Option (List Field) → Header
within_limit None = bad
within_limit (Some fields) = if nat_le (length fields) most_properties then named fields else too_many

-- the header of a file: first it is of the form, and then there are not too many properties
abbrev pub header_of : FileKind → List (List ℕ) → Header
header_of kind texts = within_limit (form_of kind texts)

-- what `read_header` answers: `Ok` with the properties, or the refusal; want of memory is free
abbrev pub Answers : Header → Result (List Field) HeaderRefusal → Type 0
Answers header (Ok fields) = header ≡ named fields
Answers header (Err refusal.Bad) = header ≡ bad
Answers header (Err refusal.TooMany) = header ≡ too_many
Answers header (Err refusal.Memory) = Unit {0}
